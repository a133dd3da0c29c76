-- A conductor that publishes all that it gathers.
use Rattle.std.proofs.Common.{◌≡◌, ◌∙◌, ap, sym, subst, refl, ℕ, ◌+◌, ◌-◌, ◌≤◌, List, [], ◌∷◌, ◌++◌, length, take, fold, max, append-nil, append_assoc, arith}
use Rattle.std.specs.Prelude.{Result, Ok, Err, IfOk, OnErr}
use Rattle.std.proofs.lemmas.List.{take_all, length-append}
use Rattle.std.proofs.Math.Seq.{take-append_seam}
use Rattle.std.proofs.Math.Nat.{max-eq_right}
use Rattle.turn_lock.specs.Turns.{Token}
use Rattle.admission_log.specs.declared.settings.Settings.{Settings}
use Rattle.admission_log.specs.declared.events.Event.{Event}
use Rattle.admission_log.specs.declared.events.Event.TheVariants.{Tick, Publish}
use Rattle.admission_log.specs.Histories.{History, first, publications_of, published_of, cut_of}
use Rattle.admission_log.specs.Legality.{IsLegal}
use Rattle.admission_log.proofs.Growing.{publications-appended}
use Rattle.edition_form.specs.declared.edition.Built.{Built}
use Rattle.edition_form.specs.Datagrams.{shown_at}
use Rattle.edition_form.specs.Editions.{IsEdition}
use Rattle.tracker_engine.specs.Engines.{EngineState, StandsFor, Continues, with_events}
use Rattle.station.specs.declared.shared.Base.{Base}
use Rattle.station.specs.declared.station.Station.{Station}
use Rattle.station.specs.declared.tokens.Conductor.{Conductor}
use Rattle.station.specs.Newest.{last_cut}
use Rattle.station.specs.Tokens.{settings_of, start_of, log_with, gathered_of, IsConductorOf, IsNewConductor}
use Rattle.station.specs.Turns.{AreConducted, having_seen, OnlySaw, Ticks, Gathers, MayPublish, Publishes}
use Rattle.station.proofs.Standing.{plain_publications}
use Rattle.live_picture.specs.declared.live.Live.{Live}
use Rattle.live_picture.specs.Rounds.{Stands, IsStanding, Tells, seen_log, gathered_log, cut_before, Follows, PublishesAll}
use Rattle.live_picture.proofs.Telling.{shown_all}

-- ---- the editions that were published, with one more

last_more : (ps : List (ℕ × ℕ)) (c : ℕ) (q : ℕ × ℕ) → fold (λ (cut : ℕ) (p : ℕ × ℕ). p.1) c (ps ++ q ∷ []) ≡ q.1
last_more [] c q = refl
last_more (p ∷ ps) c q = last_more ps p.1 q

greatest_more : (ps : List (ℕ × ℕ)) (c : ℕ) (q : ℕ × ℕ) → fold (λ (cut : ℕ) (p : ℕ × ℕ). max cut p.1) c (ps ++ q ∷ []) ≡ max (fold (λ (cut : ℕ) (p : ℕ × ℕ). max cut p.1) c ps) q.1
greatest_more [] c q = refl
greatest_more (p ∷ ps) c q = greatest_more ps (max c p.1) q

-- what holds whatever was answered holds after an error
pub on_err : {A E P : Type 0} (r : Result A E) → P → OnErr r P
on_err (Ok x) p = tt
on_err (Err e) p = p

-- ---- what a conductor has seen

-- at no turn, and at one turn after the other
pub saw_none : (turn : Token Event Base) → OnlySaw turn turn
saw_none turn = record { begins = ([], sym (append-nil turn.seen)); after = refl }

pub saw_more : (one two three : Token Event Base) → OnlySaw one two → OnlySaw two three → OnlySaw one three
saw_more one two three p q = record {
  begins = (p.begins.0 ++ q.begins.0, q.begins.1 ∙ (ap (λ (es : List Event). es ++ q.begins.0) p.begins.1 ∙ append_assoc one.seen p.begins.0 q.begins.0));
  after = q.after ∙ ap (λ (t : Token Event Base). having_seen t three.seen) p.after;
}

-- ---- a round

module _ (station : Station) where
  abbrev published_by : Conductor → List (ℕ × ℕ)
  published_by by = publications_of (seen_log station by)

  -- a conductor that has seen nothing, with an engine that has taken in nothing
  pub begins : (conductor : Conductor) (engine : EngineState) → IsNewConductor station conductor → IsConductorOf station conductor → StandsFor (settings_of station) (record { start = start_of station; events = [] }) 0 0 engine
      → Follows station (record { conductor = conductor; engine = engine; number = 1 })
  begins conductor engine new own stands = let none : conductor.turn.seen ≡ [] = ap (λ (u : Token Event Base). u.seen) new.turn in record {
    own = own;
    stands = record {
      settled = 0;
      stands = subst (λ (z : List Event × List Event). StandsFor (settings_of station) (log_with station z.0) 0 (last_cut (publications_of (log_with station z.1))) engine)
          (λ i. (sym new.gathered i, sym none i)) stands;
    };
    greatest = subst (λ (es : List Event). cut_of (log_with station es) ≡ last_cut (publications_of (log_with station es))) (sym none) refl;
    number_is = ap (λ (es : List Event). published_of (log_with station es) + 1) (sym none);
  }

  -- nothing was gathered or published
  pub still : (old : Live) (new : Conductor) → Follows station old → IsConductorOf station new → gathered_of new ≡ gathered_of old.conductor → published_by new ≡ published_by old.conductor
      → Follows station (record { conductor = new; engine = old.engine; number = old.number })
  still old new f own gathered same = record {
    own = own;
    stands = subst (λ (z : List Event × List (ℕ × ℕ)). Stands (settings_of station) (log_with station z.0) (last_cut z.1) old.engine) (λ i. (sym gathered i, sym same i)) f.stands;
    greatest = subst (λ (ps : List (ℕ × ℕ)). fold (λ (cut : ℕ) (p : ℕ × ℕ). max cut p.1) 0 ps ≡ last_cut ps) (sym same) f.greatest;
    number_is = f.number_is ∙ ap (λ (ps : List (ℕ × ℕ)). length ps + 1) (sym same);
  }

  -- the engine was brought on
  pub brought : (live : Live) (engine : EngineState) → Follows station live → Stands (settings_of station) (gathered_log station live.conductor) (cut_before station live.conductor) engine
      → Follows station (record { conductor = live.conductor; engine = engine; number = live.number })
  brought live engine f stands = record { own = f.own; stands = stands; greatest = f.greatest; number_is = f.number_is }

  -- after a tick, whether it was taken or not
  pub ticked : {F : Type 0} (old : Live) (new : Conductor) (time : ℕ) (r : Result ℕ F) → Follows station old → IsConductorOf station new → gathered_of new ≡ gathered_of old.conductor → IfOk r (λ index. Ticks station old.conductor new time index)
      → OnErr r (AreConducted station old.conductor.turn new.turn.seen) → Follows station (record { conductor = new; engine = old.engine; number = old.number })
  ticked old new time (Ok index) f own gathered t found =
      still old new f own gathered (ap (λ (u : Token Event Base). publications_of (log_with station u.seen)) t.after ∙ (plain_publications (log_with station t.found) (Tick time) refl ∙ t.are_found.publications))
  ticked old new time (Err e) f own gathered t found = still old new f own gathered found.publications

  -- ---- what was gathered

  module _ (old : Live) (new : Conductor) (events : List Event) (f : Follows station old) (g : Gathers station old.conductor new events) where
    grown : gathered_of new ≡ gathered_of old.conductor ++ events
    grown = g.gathered ∙ g.all

    pub more_legal : IsLegal (settings_of station) (with_events (gathered_log station old.conductor) events)
    more_legal = subst (λ (es : List Event). IsLegal (settings_of station) (log_with station es)) g.all g.are_found.are_found.legal

    pub continues : Continues old.engine events
    continues = record {
      settings = settings_of station;
      log = gathered_log station old.conductor;
      settled = f.stands.settled;
      before = cut_before station old.conductor;
      stands = f.stands.stands;
      legal = more_legal;
    }

    -- the engine has taken it in
    pub taken : (engine : EngineState) → IsConductorOf station new → StandsFor (settings_of station) (with_events (gathered_log station old.conductor) events) f.stands.settled (cut_before station old.conductor) engine
        → Follows station (record { conductor = new; engine = engine; number = old.number })
    taken engine own stands = record {
      own = own;
      stands = record {
        settled = f.stands.settled;
        stands = subst (λ (z : List Event × List (ℕ × ℕ)). StandsFor (settings_of station) (log_with station z.0) f.stands.settled (last_cut z.1) engine) (λ i. (sym grown i, sym g.are_found.publications i)) stands;
      };
      greatest = subst (λ (ps : List (ℕ × ℕ)). fold (λ (cut : ℕ) (p : ℕ × ℕ). max cut p.1) 0 ps ≡ last_cut ps) (sym g.are_found.publications) f.greatest;
      number_is = f.number_is ∙ ap (λ (ps : List (ℕ × ℕ)). length ps + 1) (sym g.are_found.publications);
    }

    -- .. or it was put back
    module _ (count : ℕ) (all : count ≡ length events) where
      pub no_more : count ≤ length (gathered_of new)
      no_more = let size = ap length grown ∙ length-append (gathered_of old.conductor) events in omega (arith, size, all)

      gathered_back : take (length (gathered_of new) - count) (gathered_of new) ≡ gathered_of old.conductor
      gathered_back = let size : length (gathered_of new) ≡ length (gathered_of old.conductor) + length events = ap length grown ∙ length-append (gathered_of old.conductor) events in
          let left : length (gathered_of new) - count ≡ length (gathered_of old.conductor) = omega (arith, size, all) in
          (λ i. take (left i) (grown i)) ∙ take-append_seam (gathered_of old.conductor) events

      pub given_back : (back : Conductor) → IsConductorOf station back → back.turn ≡ new.turn → gathered_of back ≡ take (length (gathered_of new) - count) (gathered_of new)
          → Follows station (record { conductor = back; engine = old.engine; number = old.number })
      given_back back own turn gathered = still old back f own (gathered ∙ gathered_back) (ap (λ (u : Token Event Base). publications_of (log_with station u.seen)) turn ∙ g.are_found.publications)

  -- ---- what is published

  module _ (live : Live) (f : Follows station live) where
    pub standing : IsStanding live.engine
    standing = record { settings = settings_of station; log = gathered_log station live.conductor; before = cut_before station live.conductor; stands = f.stands }

    pub from_one : 1 ≤ live.number
    from_one = omega (arith, f.number_is)

    module _ (engine : EngineState) (b : Built) (t : Tells (settings_of station) (gathered_log station live.conductor) (cut_before station live.conductor) live.number engine b) where
      -- the cut is the count of all events that were gathered, and isn't below the one before
      cut_is : b.edition.cut ≡ length (gathered_of live.conductor)
      cut_is = t.edition_is.cut

      no_less : cut_before station live.conductor ≤ b.edition.cut
      no_less = let w : cut_before station live.conductor ≤ length (gathered_of live.conductor) = t.stands.before_within in let c = cut_is in omega (arith, w, c)

      all_of : first b.edition.cut (gathered_log station live.conductor) ≡ gathered_log station live.conductor
      all_of = let c = cut_is in ap (log_with station) (take_all b.edition.cut (gathered_of live.conductor) (omega (arith, c)))

      pub may_publish : MayPublish station live.conductor b.edition
      may_publish = let least = no_less in let c = cut_is in record {
        no_less = omega (arith, f.greatest, least);
        no_more = omega (arith, c);
        edition_is = subst (λ (z : History × ℕ). IsEdition (settings_of station) z.0 (cut_before station live.conductor) z.1 b.edition) (λ i. (sym all_of i, f.number_is i)) t.edition_is;
      }

      pub show_rises : engine.before ≤ b.edition.cut
      show_rises = let is = t.stands.before_is in let least = no_less in omega (arith, is, least)

      pub show_within : b.edition.cut ≤ engine.count
      show_within = let is : engine.count ≡ length (gathered_of live.conductor) = t.stands.count_is in let c = cut_is in omega (arith, is, c)

      module _ (done : Conductor) (index : ℕ) (own : IsConductorOf station done) (kept : gathered_of done ≡ gathered_of live.conductor) (p : Publishes station live.conductor done b.edition index) where
        more : published_by done ≡ published_by live.conductor ++ (b.edition.number, b.edition.cut) ∷ []
        more = ap (λ (u : Token Event Base). publications_of (log_with station u.seen)) p.after
            ∙ (publications-appended (log_with station p.found) (Publish b.edition.number b.edition.cut) ∙ ap (λ (ps : List (ℕ × ℕ)). ps ++ (b.edition.number, b.edition.cut) ∷ []) p.are_found.publications)

        last_is : cut_before station done ≡ b.edition.cut
        last_is = ap last_cut more ∙ last_more (published_by live.conductor) 0 (b.edition.number, b.edition.cut)

        greatest_is : cut_of (seen_log station done) ≡ b.edition.cut
        greatest_is = ap (λ (ps : List (ℕ × ℕ)). fold (λ (cut : ℕ) (p : ℕ × ℕ). max cut p.1) 0 ps) more ∙ (greatest_more (published_by live.conductor) 0 (b.edition.number, b.edition.cut) ∙ max-eq_right (may_publish.no_less))

        -- once the edition is shown
        module _ (shown : EngineState) (show : (settings : Settings) (log : History) (settled before : ℕ) → StandsFor settings log settled before engine → b.shown ≡ shown_at settings log b.edition.cut → StandsFor settings log settled b.edition.cut shown) where
          settled : StandsFor (settings_of station) (gathered_log station done) (length (gathered_of done)) (cut_before station done) shown
          settled =
              let at : b.shown ≡ shown_at (settings_of station) (gathered_log station live.conductor) b.edition.cut = t.shown_are ∙ shown_all (settings_of station) (start_of station) (gathered_of live.conductor) ∙ ap (shown_at (settings_of station) (gathered_log station live.conductor)) (sym cut_is) in
              subst (λ (z : List Event × ℕ). StandsFor (settings_of station) (log_with station z.0) (length z.0) z.1 shown) (λ i. (sym kept i, sym last_is i))
              (show (settings_of station) (gathered_log station live.conductor) (length (gathered_of live.conductor)) (cut_before station live.conductor) t.stands at)

          pub follows : Follows station (record { conductor = done; engine = shown; number = live.number + 1 })
          follows = record {
            own = own;
            stands = record { settled = length (gathered_of done); stands = settled };
            greatest = greatest_is ∙ sym last_is;
            number_is =
                let size : length (published_by done) ≡ length (published_by live.conductor) + 1 = ap length more ∙ length-append (published_by live.conductor) ((b.edition.number, b.edition.cut) ∷ []) in
                let n : live.number ≡ length (published_by live.conductor) + 1 = f.number_is in omega (arith, size, n);
          }

          pub publishes_all : (old : Live) (events : List Event) (number : ℕ) → Gathers station old.conductor live.conductor events → live.number ≡ old.number → PublishesAll station old (record { conductor = done; engine = shown; number = number }) index
          publishes_all old events number g same = record {
            gathered = live.conductor;
            events = events;
            gathers = g;
            edition = b.edition;
            edition_is = subst (λ (z : ℕ × ℕ). IsEdition (settings_of station) (gathered_log station live.conductor) z.0 z.1 b.edition) (λ i. (last_cut (g.are_found.publications i), same i)) t.edition_is;
            publishes = p;
            kept = kept;
            settled = settled;
          }
