use Rattle.std.proofs.Common.{refl}
use Rattle.io_traits.specs.declared.host.Place.TheVariants as places
use Rattle.pairing_load.proofs.Filing.{prefix_moved, prefix_nothing}
use Rattle.pairing_load.proofs.run.run_prices.Goals as goal

pub returns-in_default-clause-prefix : goal.returns-in_default-clause-prefix
returns-in_default-clause-prefix g c = prefix_nothing c.args.load.seed c.args.load.count (g.H.Host.state c.args.host.now) (g.H.Host.state c.args.host.now) refl

pub returns-in_default-bind-clause-prefix : goal.returns-in_default-bind-clause-prefix
returns-in_default-bind-clause-prefix g c = prefix_nothing c.args.load.seed c.args.load.count (g.H.Host.state c.args.host.now) (g.H.Host.state c.bind.new.self) (c.bind.ensures.touches.got places.Output refl)

pub returns-in-Ok-write_file-clause-prefix : goal.returns-in-Ok-write_file-clause-prefix
returns-in-Ok-write_file-clause-prefix g c = prefix_moved c.args.load.seed c.args.load.count (g.H.Host.state c.args.host.now) (g.H.Host.state c.bind.new.self) (g.H.Host.state c.write_file.new.host) (c.bind.ensures.touches.got places.Output refl) c.write_file.ensures.prefix
