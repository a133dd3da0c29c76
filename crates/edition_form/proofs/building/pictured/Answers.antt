use Rattle.std.proofs.Common.{◌∙◌, sym, subst}
use Rattle.trk_base.specs.Numbers.{slot_of}
use Rattle.edition_form.specs.Telling.{Climb}
use Rattle.edition_form.proofs.Climbing.{dont_fall, rises, shown_climb}
use Rattle.edition_form.proofs.building.pictured.Goals as goal

pub datagrams-requires-clause-old : goal.datagrams-requires-clause-old
datagrams-requires-clause-old c = dont_fall c.args.old.now c.requires.old

pub datagrams-requires-clause-now : goal.datagrams-requires-clause-now
datagrams-requires-clause-now c =
    subst Climb (sym (c.deref.ensures.value ∙ c.in_ok-shown.ensures)) (shown_climb c.args.settings.now.life c.args.time (slot_of c.args.time) c.args.table.now c.requires.numbers)

pub returns-clause-rising : goal.returns-clause-rising
returns-clause-rising c =
    rises c.of.result (subst Climb (sym (c.of.ensures ∙ c.in_ok-shown.ensures)) (shown_climb c.args.settings.now.life c.args.time (slot_of c.args.time) c.args.table.now c.requires.numbers))
