use Rattle.std.proofs.Common.{◌∙◌, ap, length}
use Rattle.status_out.proofs.Records.{status_record, end_record, service_size}
use Rattle.status_out.proofs.service_writer.service_record.Goals as goal

pub returns-in_ok-put-in-Status-clause-octets : goal.returns-in_ok-put-in-Status-clause-octets
returns-in_ok-put-in-Status-clause-octets c = status_record c.args.line.now c.in-Status.stamp c.in-Status.nogo c.in_ok-record-in-Status.record c.put.new.self c.finish.result.items c.in-Status.is c.in_ok-record-in-Status.ensures c.in_ok-put-in-Status.ensures.added c.finish.ensures

pub returns-in_ok-put-in-Status-clause-size : goal.returns-in_ok-put-in-Status-clause-size
returns-in_ok-put-in-Status-clause-size c = ap length (returns-in_ok-put-in-Status-clause-octets c) ∙ service_size c.args.line.now

pub returns-in_ok-put-in-End-clause-octets : goal.returns-in_ok-put-in-End-clause-octets
returns-in_ok-put-in-End-clause-octets c = end_record c.args.line.now c.in-End.stamp c.in-End.batch c.in_ok-record-in-End.record c.put-in-End.new.self c.finish-in-End.result.items c.in-End.is c.in_ok-record-in-End.ensures c.in_ok-put-in-End.ensures.added c.finish-in-End.ensures

pub returns-in_ok-put-in-End-clause-size : goal.returns-in_ok-put-in-End-clause-size
returns-in_ok-put-in-End-clause-size c = ap length (returns-in_ok-put-in-End-clause-octets c) ∙ service_size c.args.line.now
