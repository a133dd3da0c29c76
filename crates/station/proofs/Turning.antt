-- What a turn found and left.
use Rattle.std.proofs.Common.{◌≡◌, ◌∙◌, ap, sym, subst, refl, ℕ, ◌+◌, ◌<◌, ◌≤◌, ◌==◌, Bool, true, false, List, [], ◌∷◌, ◌++◌, length, append-nil, append_assoc, length-append, length-drop, length-take-le, fold, max, arith, eq-eqb, ne_eqb}
use Rattle.std.specs.Prelude.{if◌then◌else◌, take, drop, Result, Ok, Err, IfOk, OnOk, OnErr}
use Rattle.std.proofs.lemmas.List.{take-append-le, take-append-drop}
use Rattle.turn_lock.specs.Lists.{Begins}
use Rattle.turn_lock.specs.Steps.{Adds, new_index}
use Rattle.turn_lock.specs.Turns.{Token, LockFacts, IsTurnOf, Finds, MayLeave, turned}
use Rattle.admission_log.specs.declared.events.Event.{Event}
use Rattle.admission_log.specs.declared.events.Event.TheVariants.{Tick, Publish}
use Rattle.admission_log.specs.declared.events.Receipt.{Receipt}
use Rattle.admission_log.specs.declared.events.TickError.{TickError}
use Rattle.admission_log.specs.declared.events.TickError.TheVariants as errors
use Rattle.admission_log.specs.Messages.{Said}
use Rattle.admission_log.specs.Deliveries.{DeliversOf}
use Rattle.admission_log.specs.Histories.{History, appended, first, last_of, publications_of, published_of, cut_of}
use Rattle.admission_log.specs.Legality.{IsLegal}
use Rattle.station.specs.declared.shared.Base.{Base}
use Rattle.station.specs.declared.station.Station.{Station}
use Rattle.station.specs.Newest.{Shared, is_publication, last_cut}
use Rattle.station.specs.Shared.{base_of, events_of}
use Rattle.edition_form.specs.declared.edition.Edition.{Edition}
use Rattle.edition_form.specs.Editions.{IsEdition}
use Rattle.station.specs.declared.tokens.Conductor.{Conductor}
use Rattle.station.specs.Added.{AllAt, is_of_feed}
use Rattle.station.specs.Tokens.{settings_of, log_with, gathered_of}
use Rattle.station.specs.Turns.{AreFound, AreConducted, having_seen, having_added, OnlySaw, Ticks, IsOld, Gathers, MayPublish, Publishes}
use Rattle.station.proofs.Indices.{all_seen, all_added}
use Rattle.station.proofs.Counting.{seen_all}

-- ---- which events a call may add

adds_none : (head : Bool) (found left : List Event) → left ≡ found → Adds is_publication head found left
adds_none head found left same = record { fresh = []; appended = same ∙ sym (append-nil found); few = omega arith; plain = λ _. refl }

adds_one : (head : Bool) (found left : List Event) (e : Event) → left ≡ found ++ e ∷ [] → (head ≡ false → is_publication e ≡ false) → Adds is_publication head found left
adds_one head found left e grown plain = record {
  fresh = e ∷ [];
  appended = grown;
  few = omega arith;
  plain = λ h. ap (λ (z : Bool). 0 + (if z then 1 else 0)) (plain h);
}

-- ---- the turn afterwards

pub turned_same : (turn : Token Event Base) (found left : List Event) → left ≡ found → turned turn found left ≡ having_seen turn left
turned_same turn found left same = let none : new_index (length found) (length left) ≡ [] = ap (λ z. if z then [] else length found ∷ []) (eq-eqb (length found) (length left) (sym (ap length same))) in
    ap (λ (m : List ℕ). record turn { seen = left; mine = m }) (ap (λ (m : List ℕ). turn.mine ++ m) none ∙ append-nil turn.mine)

pub turned_one : (turn : Token Event Base) (found left : List Event) (e : Event) → left ≡ found ++ e ∷ [] → turned turn found left ≡ having_added turn found e
turned_one turn found left e grown = let size : length left ≡ length found + 1 = ap length grown ∙ length-append found (e ∷ []) in
    let one : new_index (length found) (length left) ≡ length found ∷ [] = ap (λ z. if z then [] else length found ∷ []) (ne_eqb (length found) (length left) (λ e. omega arith)) in
    λ i. record turn { seen = grown i; mine = turn.mine ++ one i }

pub own_after : (lock : LockFacts Base) (old new : Token Event Base) (found left : List Event) → IsTurnOf lock old → new ≡ turned old found left → IsTurnOf lock new
own_after lock old new found left own is = subst (IsTurnOf lock) (sym is) record { table = own.table; base = own.base }

pub number_after : (old new : Token Event Base) (found left : List Event) → new ≡ turned old found left → new.number ≡ old.number
number_after old new found left is = ap (λ (t : Token Event Base). t.number) is

pub only_saw : (old new : Token Event Base) (found left : List Event) → Begins old.seen found → left ≡ found → new ≡ turned old found left → OnlySaw old new
only_saw old new found left b same is = let after = is ∙ turned_same old found left same in let seen = ap (λ (t : Token Event Base). t.seen) after in record {
  begins = subst (Begins old.seen) (sym (seen ∙ same)) b;
  after = after ∙ ap (having_seen old) (sym seen);
}

-- ---- what was found

module _ (station : Station) (turn : Token Event Base) (x : Shared) (f : Finds events_of is_publication base_of station.lock turn x) where
  -- what is known of the value, said of the station
  pub at_station : (F : Base → Type 0) → F (base_of x) → F station.lock.base
  at_station F h = subst F f.rooted h

  pub are_found : IsLegal x.settings x.log → AreFound station turn (events_of x)
  are_found legal = record { begins = f.begins; legal = at_station (λ (b : Base). IsLegal b.settings (record { start = b.start; events = events_of x })) legal }

  pub are_conducted : turn.number ≡ 0 → IsLegal x.settings x.log → AreConducted station turn (events_of x)
  are_conducted head legal = record { are_found = are_found legal; publications = seen_all turn.seen (events_of x) f.begins (f.head head) }

-- ---- what a token has made

module _ (such : Event → Bool) (old new : Token Event Base) (found left : List Event) (made : AllAt such old.mine old.seen) (begins : Begins old.seen found) (is : new ≡ turned old found left) where
  pub made_seen : left ≡ found → AllAt such new.mine new.seen
  made_seen same = subst (λ (t : Token Event Base). AllAt such t.mine t.seen) (sym (is ∙ turned_same old found left same)) (all_seen such old.mine old.seen left made (subst (Begins old.seen) (sym same) begins))

  pub made_added : (e : Event) → left ≡ found ++ e ∷ [] → such e ≡ true → AllAt such new.mine new.seen
  made_added e grown is_such = subst (λ (t : Token Event Base). AllAt such t.mine t.seen) (sym (is ∙ turned_one old found left e grown)) (all_added such old.mine old.seen found e made begins is_such)

  -- .. after a call that may fail
  pub made_after : {T F : Type 0} (r : Result T F) (e : Event) → OnOk r (left ≡ found ++ e ∷ []) → OnErr r (left ≡ found) → such e ≡ true → AllAt such new.mine new.seen
  made_after (Ok v) e grown same is_such = made_added e grown is_such
  made_after (Err v) e grown same is_such = made_seen same

-- a datagram's event is of its feed
pub made_fed : {F : Type 0} (r : Result Receipt F) (old new : Token Event Base) (x y : Shared) (feed : ℕ) (said : Said) → AllAt (is_of_feed feed) old.mine old.seen → Begins old.seen (events_of x) → new ≡ turned old (events_of x) (events_of y)
    → IfOk r (λ v. DeliversOf x.settings feed said x.log y.log v.outcomes) → OnErr r (y.log ≡ x.log) → AllAt (is_of_feed feed) new.mine new.seen
made_fed (Ok v) old new x y feed said made begins is d same = made_added (is_of_feed feed) old new (events_of x) (events_of y) made begins is d.event (ap (λ (h : History). h.events) d.new_is) (ap (is_of_feed feed) d.is_delivery.event_is ∙ eq-eqb feed feed refl)
made_fed (Err v) old new x y feed said made begins is fed same = made_seen (is_of_feed feed) old new (events_of x) (events_of y) made begins is (ap (λ (h : History). h.events) same)

pub longer : (old new : Token Event Base) (found left : List Event) → Begins old.seen found → Begins found left → new ≡ turned old found left → length old.seen ≤ length new.seen
longer old new found left b g is = let one = ap length b.1 ∙ length-append old.seen b.0 in let two = ap length g.1 ∙ length-append found g.0 in let three : length new.seen ≡ length left = ap (λ (t : Token Event Base). length t.seen) is in omega (arith, one, two, three)

pub begins_after : {T F : Type 0} (r : Result T F) (found left : List Event) (e : Event) → OnOk r (left ≡ found ++ e ∷ []) → OnErr r (left ≡ found) → Begins found left
begins_after (Ok v) found left e grown same = (e ∷ [], grown)
begins_after (Err v) found left e grown same = ([], same ∙ sym (append-nil found))

take_all : (xs : List Event) → take (length xs) xs ≡ xs
take_all [] = refl
take_all (x ∷ xs) = ap (λ ys. x ∷ ys) (take_all xs)

-- what was gathered before and what is copied now are all that was found
pub gathered_more : (by : Conductor) (x : Shared) → Begins by.turn.seen (events_of x) → (events : List Event) → events ≡ drop by.gathered (events_of x) → by.gathered + length events ≡ length (events_of x)
gathered_more by x b events are = let size = ap length are ∙ length-drop by.gathered (events_of x) in let long = ap length b.1 ∙ length-append by.turn.seen b.0 in omega (arith, size, long, by.within)

-- ---- the conductor's answers

-- what the conductor may publish is the next edition at its turn
pub publishable : (station : Station) (by : Conductor) (x : Shared) (f : Finds events_of is_publication base_of station.lock by.turn x) (head : by.turn.number ≡ 0) (e : Edition) → MayPublish station by e → (cut_of x.log ≤ e.cut) × (e.cut ≤ length (events_of x)) × IsEdition x.settings (first e.cut x.log) (last_cut (publications_of x.log)) (published_of x.log + 1) e
publishable station by x f head e may = let same = seen_all by.turn.seen (events_of x) f.begins (f.head head) in let long = ap length f.begins.1 ∙ length-append by.turn.seen f.begins.0 in
    let short : length (gathered_of by) ≤ length by.turn.seen = omega (arith, length-take-le by.gathered by.turn.seen by.within, by.within) in let within : e.cut ≤ length (gathered_of by) = may.no_more in
    let cut : take e.cut (events_of x) ≡ take e.cut (gathered_of by) = ap (take e.cut) (f.begins.1 ∙ (ap (λ xs. xs ++ f.begins.0) (sym (take-append-drop by.gathered by.turn.seen)) ∙ append_assoc (gathered_of by) (drop by.gathered by.turn.seen) f.begins.0))
    ∙ take-append-le e.cut (gathered_of by) (drop by.gathered by.turn.seen ++ f.begins.0) within in
    let kept = subst (λ (ps : List (ℕ × ℕ)). IsEdition (settings_of station) (first e.cut (log_with station (gathered_of by))) (last_cut ps) (length ps + 1) e) (sym same) may.edition_is in (
      subst (λ (ps : List (ℕ × ℕ)). fold (λ c p. max c p.1) 0 ps ≤ e.cut) (sym same) may.no_less,
      omega (arith, long, short, within),
      subst (λ (z : Base × List Event). IsEdition z.0.settings (record { start = z.0.start; events = z.1 }) (last_cut (publications_of x.log)) (published_of x.log + 1) e) (λ i. (sym f.rooted i, sym cut i)) kept,
    )

module _ (station : Station) (by : Conductor) (x y : Shared) (f : Finds events_of is_publication base_of station.lock by.turn x) (head : by.turn.number ≡ 0) (legal : IsLegal x.settings x.log) where
  pub ticked : (new : Conductor) {F : Type 0} (r : Result ℕ F) (time : ℕ) → new.turn ≡ turned by.turn (events_of x) (events_of y) → IfOk r (λ index. index ≡ length (events_of x)) → OnOk r (y.log ≡ appended x.log (Tick time)) → OnOk r (last_of x.log < time)
      → IfOk r (λ index. Ticks station by new time index)
  ticked new (Ok index) time is at grown later = record {
    found = events_of x;
    are_found = are_conducted station by.turn x f head legal;
    later = at_station station by.turn x f (λ b. last_of (record { start = b.start; events = events_of x }) < time) later;
    index_is = at;
    after = is ∙ turned_one by.turn (events_of x) (events_of y) (Tick time) (ap (λ (h : History). h.events) grown);
  }
  ticked new (Err v) time is at grown later = tt

  seen_there : (new : Token Event Base) → new ≡ turned by.turn (events_of x) (events_of y) → events_of y ≡ events_of x → new.seen ≡ events_of x
  seen_there new is same = ap (λ (t : Token Event Base). t.seen) is ∙ same

  pub there : (new : Token Event Base) → new ≡ turned by.turn (events_of x) (events_of y) → events_of y ≡ events_of x → AreConducted station by.turn new.seen
  there new is same = subst (AreConducted station by.turn) (sym (seen_there new is same)) (are_conducted station by.turn x f head legal)

  -- .. after a call that may fail
  pub found_there : {T F : Type 0} (new : Token Event Base) (r : Result T F) → new ≡ turned by.turn (events_of x) (events_of y) → OnErr r (y.log ≡ x.log) → OnErr r (AreConducted station by.turn new.seen)
  found_there new (Ok v) is err = tt
  found_there new (Err v) is err = there new is (ap (λ (h : History). h.events) err)

  pub too_old : (new : Conductor) (r : Result ℕ TickError) (time : ℕ) → new.turn ≡ turned by.turn (events_of x) (events_of y) → ((last : ℕ) → r ≡ Err (errors.Old last) → (last ≡ last_of x.log) × (time ≤ last_of x.log)) → OnErr r (y.log ≡ x.log)
      → (last : ℕ) → r ≡ Err (errors.Old last) → IsOld station by new time last
  too_old new r time is old err last e = let o = old last e in let same : y.log ≡ x.log = subst (λ z. OnErr z (y.log ≡ x.log)) e err in let events = ap (λ (h : History). h.events) same in
      let moved : last_of x.log ≡ last_of (log_with station new.turn.seen) = λ i. last_of (record { start = (f.rooted i).start; events = sym (seen_there new.turn is events) i }) in record {
        are_found = there new.turn is events;
        last_is = o.0 ∙ moved;
        not_above = subst (λ n. time ≤ n) (sym o.0) o.1;
      }

  pub gathers : (new : Conductor) (events : List Event) → new.turn ≡ turned by.turn (events_of x) (events_of y) → y ≡ x → events ≡ drop by.gathered (events_of x) → new.gathered ≡ length (events_of x) → Gathers station by new events
  gathers new events is same are all = let there_is = seen_there new.turn is (ap events_of same) in let long = ap length f.begins.1 ∙ length-append by.turn.seen f.begins.0 in record {
    are_found = there new.turn is (ap events_of same);
    all = there_is ∙ (sym (take-append-drop by.gathered (events_of x)) ∙ (λ i. (ap (take by.gathered) f.begins.1 ∙ take-append-le by.gathered by.turn.seen f.begins.0 by.within) i ++ sym are i));
    gathered = ap (λ n. take n new.turn.seen) (all ∙ ap length (sym there_is)) ∙ take_all new.turn.seen;
  }

  pub published : (new : Conductor) {F : Type 0} (r : Result ℕ F) (e : Edition) → new.turn ≡ turned by.turn (events_of x) (events_of y) → IfOk r (λ index. index ≡ length (events_of x)) → OnOk r (y.log ≡ appended x.log (Publish e.number e.cut))
      → IfOk r (λ index. Publishes station by new e index)
  published new (Ok index) e is at grown = record {
    found = events_of x;
    are_found = are_conducted station by.turn x f head legal;
    index_is = at;
    after = is ∙ turned_one by.turn (events_of x) (events_of y) (Publish e.number e.cut) (ap (λ (h : History). h.events) grown);
  }
  published new (Err v) e is at grown = tt

-- ---- what is left

module _ (turn : Token Event Base) (x y : Shared) (rooted : base_of y ≡ base_of x) where
  pub may_stay : y.log ≡ x.log → MayLeave events_of is_publication base_of turn x y
  may_stay same = record { rooted = rooted; adds = adds_none (turn.number == 0) (events_of x) (events_of y) (ap (λ (h : History). h.events) same) }

  pub may_add : (e : Event) → y.log ≡ appended x.log e → (turn.number == 0 ≡ false → is_publication e ≡ false) → MayLeave events_of is_publication base_of turn x y
  may_add e grown plain = record { rooted = rooted; adds = adds_one (turn.number == 0) (events_of x) (events_of y) e (ap (λ (h : History). h.events) grown) plain }

  -- .. after a call that may fail
  pub may_leave : {T F : Type 0} (r : Result T F) (e : Event) → OnOk r (y.log ≡ appended x.log e) → OnErr r (y.log ≡ x.log) → (turn.number == 0 ≡ false → is_publication e ≡ false)
      → MayLeave events_of is_publication base_of turn x y
  may_leave (Ok v) e grown same plain = may_add e grown plain
  may_leave (Err v) e grown same plain = may_stay same
