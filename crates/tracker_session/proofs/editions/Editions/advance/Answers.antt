use Rattle.std.proofs.Common.{◌≡◌, ◌∙◌, ap, sym, subst, arith, ℕ, length}
use Rattle.edition_form.specs.Datagrams.{shown_at}
use Rattle.tracker_engine.specs.Engines.{StandsFor}
use Rattle.tracker_session.proofs.Nexts.{given_next, newest_parts, shown_here, whole_cut}
use Rattle.tracker_session.proofs.editions.Editions.advance.Goals as goal

pub pictured-requires : goal.pictured-requires
pictured-requires g c =
    let editions = c.args.self.now in
    let h = c.requires.next in
    record { settled = record { settings = editions.engine.settings; log = h.0; before = editions.cut; stands = c.in_ok-number.ensures.stands h.0 h.1 } }

pub show-requires-clause-rises : goal.show-requires-clause-rises
show-requires-clause-rises g c =
    let editions = c.args.self.now in
    let settings = editions.engine.settings in
    let h = c.requires.next in
    let stands = c.in_ok-number.ensures.stands h.0 h.1 in
    omega (arith, stands.before_is, c.in_ok-number.ensures.cut)

pub show-requires-clause-within : goal.show-requires-clause-within
show-requires-clause-within g c =
    let editions = c.args.self.now in
    let settings = editions.engine.settings in
    let h = c.requires.next in
    omega (arith, (c.in_ok-number.ensures.stands h.0 h.1).count_is, c.in_ok-number.ensures.cut, whole_cut settings h.0 c.args.newest.now editions h.1)

pub returns-clause-newest : goal.returns-clause-newest
returns-clause-newest g c log h =
    let editions = c.args.self.now in
    let settings = editions.engine.settings in
    let stands = c.in_ok-number.ensures.stands log h in
    newest_parts settings log c.args.newest.now editions h c.in_ok-number.number _ c.in_ok-number.ensures.number (c.in_ok-datagrams.ensures.datagrams settings log editions.cut stands) (c.in_ok-certificates.ensures settings log editions.cut stands)

pub returns-clause-given : goal.returns-clause-given
returns-clause-given g c log h =
    let editions = c.args.self.now in
    let settings = editions.engine.settings in
    let newest = c.args.newest.now in
    let stands = c.in_ok-number.ensures.stands log h in
    let cut : c.in_ok-number.cut ≡ length log.events = c.in_ok-number.ensures.cut ∙ whole_cut settings log newest editions h in
    let shown = c.into_vec.ensures ∙ c.in_ok-datagrams.ensures.shown settings log editions.cut stands in
    let there = shown ∙ shown_here settings log newest editions h ∙ ap (shown_at settings log) (sym cut) in
    let after = c.show.ensures.stands settings log (length log.events) editions.cut stands there in
    given_next settings log newest editions h c.show.new.self (c.show.ensures.number ∙ c.in_ok-number.ensures.number) (c.show.ensures.cut ∙ cut) (c.show.ensures.tracks ∙ ap length shown)
    (subst (λ (n : ℕ). StandsFor settings log (length log.events) n c.show.new.self.engine) cut after)

pub returns-clause-bound : goal.returns-clause-bound
returns-clause-bound g c log slots h span = c.reach.ensures.bound log slots h span
