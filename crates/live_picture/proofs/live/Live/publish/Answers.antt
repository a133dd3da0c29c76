use Rattle.std.proofs.Common.{rules, ◌≡◌, ◌∙◌, ◌+◌, ℕ, sym, subst}
use Rattle.std.specs.Arc.{arc_value}
use Rattle.edition_form.specs.declared.edition.Edition.{Edition}
use Rattle.station.specs.Tokens.{settings_of}
use Rattle.station.specs.Turns.{MayPublish, Publishes}
use Rattle.live_picture.specs.Rounds.{gathered_log, cut_before, Follows}
use Rattle.live_picture.proofs.Following.{on_err, saw_none, saw_more, still, brought, standing, from_one, may_publish, show_rises, show_within, follows, publishes_all}
use Rattle.live_picture.proofs.live.Live.publish.Goals as goal

pub advance-requires-clause-from_one : goal.advance-requires-clause-from_one
advance-requires-clause-from_one g c κs within = from_one c.args.station.now c.take_in.new.self c.take_in.ensures.follows

pub advance-requires-clause-standing : goal.advance-requires-clause-standing
advance-requires-clause-standing g c κs within = standing c.args.station.now c.take_in.new.self c.take_in.ensures.follows

pub publish-requires-clause-edition : goal.publish-requires-clause-edition
publish-requires-clause-edition g c =
    let station = c.args.station.now in let live = c.take_in.new.self in let f = c.take_in.ensures.follows in
    let t = c.in_ok-told.ensures.tells (settings_of station) (gathered_log station live.conductor) (cut_before station live.conductor) f.stands in
    let held : arc_value c.in_ok-edition.edition ≡ c.in_ok-told.told.edition = search rules in
    subst (λ (e : Edition). MayPublish station live.conductor e) (sym held) (may_publish station live f c.advance.new.engine c.in_ok-told.told t)

pub show-requires-clause-rises : goal.show-requires-clause-rises
show-requires-clause-rises g c =
    let station = c.args.station.now in let live = c.take_in.new.self in let f = c.take_in.ensures.follows in
    show_rises station live f c.advance.new.engine c.in_ok-told.told (c.in_ok-told.ensures.tells (settings_of station) (gathered_log station live.conductor) (cut_before station live.conductor) f.stands)

pub show-requires-clause-within : goal.show-requires-clause-within
show-requires-clause-within g c =
    let station = c.args.station.now in let live = c.take_in.new.self in let f = c.take_in.ensures.follows in
    show_within station live f c.advance.new.engine c.in_ok-told.told (c.in_ok-told.ensures.tells (settings_of station) (gathered_log station live.conductor) (cut_before station live.conductor) f.stands)

-- ---- after an error

pub returns-in_err-next-clause-err : goal.returns-in_err-next-clause-err
returns-in_err-next-clause-err g c = on_err c.from_residual.result (saw_none c.args.self.now.conductor.turn)

pub returns-in_err-told-clause-follows : goal.returns-in_err-told-clause-follows
returns-in_err-told-clause-follows g c =
    let station = c.args.station.now in let live = c.take_in.new.self in let f = c.take_in.ensures.follows in
    brought station live c.advance.new.engine f (c.advance.ensures.stands (settings_of station) (gathered_log station live.conductor) (cut_before station live.conductor) f.stands)

pub returns-in_err-edition-clause-follows : goal.returns-in_err-edition-clause-follows
returns-in_err-edition-clause-follows g c =
    let station = c.args.station.now in let live = c.take_in.new.self in let f = c.take_in.ensures.follows in
    brought station live c.advance.new.engine f (c.advance.ensures.stands (settings_of station) (gathered_log station live.conductor) (cut_before station live.conductor) f.stands)

pub returns-in_err-index-clause-follows : goal.returns-in_err-index-clause-follows
returns-in_err-index-clause-follows g c =
    let station = c.args.station.now in let live = c.take_in.new.self in let f = c.take_in.ensures.follows in
    let b = brought station live c.advance.new.engine f (c.advance.ensures.stands (settings_of station) (gathered_log station live.conductor) (cut_before station live.conductor) f.stands) in
    still station (record { conductor = live.conductor; engine = c.advance.new.engine; number = live.number }) c.publish.new.by b c.publish.ensures.own c.publish.ensures.gathered c.in_err-index.ensures.found.publications

pub returns-in_err-index-clause-err : goal.returns-in_err-index-clause-err
returns-in_err-index-clause-err g c = on_err c.from_residual-in_err-index.result (saw_more c.args.self.now.conductor.turn c.take_in.new.self.conductor.turn c.publish.new.by.turn c.take_in.ensures.saw c.in_err-index.ensures.err)

-- ---- once it is published

pub returns-clause-follows : goal.returns-clause-follows
returns-clause-follows g c =
    let station = c.args.station.now in let live = c.take_in.new.self in let f = c.take_in.ensures.follows in
    let t = c.in_ok-told.ensures.tells (settings_of station) (gathered_log station live.conductor) (cut_before station live.conductor) f.stands in
    let held : arc_value c.in_ok-edition.edition ≡ c.in_ok-told.told.edition = search rules in
    let next : c.in_ok-next.next ≡ live.number + 1 = search rules in
    subst (λ (n : ℕ). Follows station (record { conductor = c.publish.new.by; engine = c.show.new.self; number = n })) (sym next)
    (follows station live f c.advance.new.engine c.in_ok-told.told t c.publish.new.by c.in_ok-index.index c.publish.ensures.own c.publish.ensures.gathered (subst (λ (e : Edition). Publishes station live.conductor c.publish.new.by e c.in_ok-index.index) held c.in_ok-index.ensures.publishes)
    c.show.new.self (λ settings log settled before stands are. c.show.ensures settings log settled before stands (c.into_vec.ensures ∙ are)))

pub returns-clause-publishes : goal.returns-clause-publishes
returns-clause-publishes g c =
    let station = c.args.station.now in let live = c.take_in.new.self in let f = c.take_in.ensures.follows in
    let t = c.in_ok-told.ensures.tells (settings_of station) (gathered_log station live.conductor) (cut_before station live.conductor) f.stands in
    let held : arc_value c.in_ok-edition.edition ≡ c.in_ok-told.told.edition = search rules in
    let (events, gathers) = c.in_ok-take_in.ensures.gathers in
    publishes_all station live f c.advance.new.engine c.in_ok-told.told t c.publish.new.by c.in_ok-index.index c.publish.ensures.own c.publish.ensures.gathered (subst (λ (e : Edition). Publishes station live.conductor c.publish.new.by e c.in_ok-index.index) held c.in_ok-index.ensures.publishes)
    c.show.new.self (λ settings log settled before stands are. c.show.ensures settings log settled before stands (c.into_vec.ensures ∙ are)) c.args.self.now events _ gathers c.take_in.ensures.number
