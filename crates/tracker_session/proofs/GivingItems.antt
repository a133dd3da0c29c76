-- What the script of a replay's items gives, by what a replay is.
use Rattle.std.proofs.Common.{◌≡◌, ◌≤◌, ◌∙◌, ◌⊎◌, inl, inr, ap, refl, sym, subst, arith, ℕ, suc, ◌+◌, List, [], ◌∷◌, ◌++◌, length, take, length-append, append-nil, append_assoc, Bool, true, false}
use Rattle.std.specs.Prelude.{Option, Some, None, if◌then◌else◌}
use Rattle.std.proofs.Math.Seq.{take-add}
use Rattle.std.proofs.lemmas.List.{drop_at, take_all, take_at}
use Rattle.io_traits.specs.Touching.{same_place}
use Rattle.io_traits.specs.declared.host.Place.{Place}
use Rattle.io_traits.specs.declared.host.Place.TheVariants as places
use Rattle.recording.specs.Items.{Item}
use Rattle.price_form.specs.Files.{magic}
use Rattle.admission_log.specs.declared.settings.Settings as admission
use Rattle.admission_log.specs.declared.events.Event.{Event}
use Rattle.admission_log.specs.Histories.{History}
use Rattle.edition_form.specs.Prices.{ArePricesOf}
use Rattle.session_script.specs.Scripts.{Binding, End, GetsFirst, GetsNothing, Gives, Script, StopsHere, ends, piece_for}
use Rattle.tracker_session.specs.Counting.{counts_of}
use Rattle.tracker_session.specs.Inputs.{HasInput, tells_biases}
use Rattle.tracker_session.specs.Replay.{Adds, AreOfAll, IsEditionAt, IsLogAfter, IsOutput, IsPrices, empty_log, log_with}
use Rattle.tracker_session.specs.ReplayGives.{BeganPrices, GetsBoth, ReplaysPartly, pieces_for}
use Rattle.tracker_session.specs.ReplayScript.{Added, EditionOf, edition_script, end_at, ending, items_script, octets_script, prices_script}
use Rattle.tracker_session.specs.Taking.{shows}
use Rattle.tracker_session.proofs.Growing.{silent_grows, tick_grows}
use Rattle.tracker_session.proofs.Outputs.{Grows, grows_on, nothing_given, output_kept, prices_kept}

-- ---- what Output and Prices get, one piece behind the other

pub no_piece : (p : Place) → piece_for places.Output [] p ≡ []
no_piece p = by_test (same_place p places.Output) [] refl where
  by_test : (b : Bool) (xs : List ℕ) → xs ≡ [] → (if b then xs else []) ≡ []
  by_test true xs e = e
  by_test false xs e = refl

-- nothing for either
pub no_pieces : (p : Place) → pieces_for [] [] p ≡ []
no_pieces places.Settings = refl
no_pieces places.Input = refl
no_pieces places.Output = refl
no_pieces places.Prices = refl
no_pieces places.Screen = refl

both_more : (a b c d : List ℕ) (p : Place) → pieces_for (a ++ c) (b ++ d) p ≡ pieces_for a b p ++ pieces_for c d p
both_more a b c d places.Settings = refl
both_more a b c d places.Input = refl
both_more a b c d places.Output = append-nil (a ++ c) ∙ sym (λ i. append-nil a i ++ append-nil c i)
both_more a b c d places.Prices = refl
both_more a b c d places.Screen = refl

-- those for Output alone, and for Prices
for_output : (a : List ℕ) (p : Place) → pieces_for a [] p ≡ piece_for places.Output a p
for_output a places.Settings = refl
for_output a places.Input = refl
for_output a places.Output = append-nil a
for_output a places.Prices = refl
for_output a places.Screen = refl

for_prices : (b : List ℕ) (p : Place) → pieces_for [] b p ≡ piece_for places.Prices b p
for_prices b places.Settings = refl
for_prices b places.Input = refl
for_prices b places.Output = refl
for_prices b places.Prices = refl
for_prices b places.Screen = refl

-- the places get these first, and then the rest
abbrev BothFirst : List ℕ → List ℕ → (Place → List ℕ) → (Place → List ℕ) → Type 0
BothFirst output prices rest gets = (p : Place) → gets p ≡ pieces_for output prices p ++ rest p

-- Output its piece, and then Prices its own
one_after_other : (output prices : List ℕ) (last mid gets : Place → List ℕ) → GetsFirst places.Output output mid gets → GetsFirst places.Prices prices last mid → BothFirst output prices last gets
one_after_other output prices last mid gets h k p = h p ∙ ap (λ x. piece_for places.Output output p ++ x) (k p) ∙ sym (append_assoc (piece_for places.Output output p) (piece_for places.Prices prices p) (last p))

nothing_first : (gets : Place → List ℕ) → BothFirst [] [] gets gets
nothing_first gets p = ap (λ x. x ++ gets p) (sym (no_pieces p))

first_more : (a b c d : List ℕ) (rest mid gets : Place → List ℕ) → BothFirst a b mid gets → BothFirst c d rest mid → BothFirst (a ++ c) (b ++ d) rest gets
first_more a b c d rest mid gets h k p = h p ∙ ap (λ x. pieces_for a b p ++ x) (k p) ∙ sym (append_assoc (pieces_for a b p) (pieces_for c d p) (rest p)) ∙ ap (λ x. x ++ rest p) (sym (both_more a b c d p))

both_behind : (a b c d : List ℕ) (mid gets : Place → List ℕ) → BothFirst a b mid gets → GetsBoth c d mid → GetsBoth (a ++ c) (b ++ d) gets
both_behind a b c d mid gets h k p = h p ∙ ap (λ x. pieces_for a b p ++ x) (k p) ∙ sym (both_more a b c d p)

and_no_more : (a b : List ℕ) (rest gets : Place → List ℕ) → BothFirst a b rest gets → GetsNothing rest → GetsBoth a b gets
and_no_more a b rest gets h none p = h p ∙ ap (λ x. pieces_for a b p ++ x) (none p) ∙ append-nil (pieces_for a b p)

-- a prefix that ends in the second part
taken_so : (piece more : List ℕ) (n : ℕ) → take (length piece + n) (piece ++ more) ≡ piece ++ take n more
taken_so piece more n = take-add (length piece) n (piece ++ more) ∙ (λ i. take_at piece more (length piece) refl i ++ take n (drop_at piece more (length piece) refl i))

-- ---- the items

-- What the items up to a later log make of the output and of the prices.
record Made (settings : admission.Settings) (log after : History) (output prices : List ℕ) : Type 0 where
  output_grows : Grows (IsEditionAt settings) log after output
  prices_grow : Grows (ArePricesOf settings) log after prices

made_nothing : (settings : admission.Settings) (log : History) → Made settings log log [] []
made_nothing settings log = record {
  output_grows = nothing_given (IsEditionAt settings) (output_kept settings) log log (λ octets is. is);
  prices_grow = nothing_given (ArePricesOf settings) (prices_kept settings) log log (λ octets is. is);
}

made_on : (settings : admission.Settings) (log mid after : History) (a b c d : List ℕ) → Made settings log mid a b → Made settings mid after c d → Made settings log after (a ++ c) (b ++ d)
made_on settings log mid after a b c d h k = record {
  output_grows = grows_on (IsEditionAt settings) (output_kept settings) log mid after a c h.output_grows k.output_grows;
  prices_grow = grows_on (ArePricesOf settings) (prices_kept settings) log mid after b d h.prices_grow k.prices_grow;
}

-- All items were taken, Output and Prices got their pieces, and then the rest was done.
record Through (settings : admission.Settings) (next : History → Script) (log : History) (items : List Item) (holds : Place → List ℕ → Type 0) (bound : List Binding) (gets : Place → List ℕ) (stop : Option End) : Type 0 where
  after : History
  log_is : IsLogAfter settings log items after
  output : List ℕ
  prices : List ℕ
  made : Made settings log after output prices
  rest : Place → List ℕ
  first : BothFirst output prices rest gets
  gives : Gives (next after) holds bound rest stop

-- It broke off after so many items: Output and Prices got prefixes of their pieces.
record PartWay (settings : admission.Settings) (log : History) (items : List Item) (bound : List Binding) (gets : Place → List ℕ) (stop : Option End) : Type 0 where
  number : ℕ
  after : History
  log_is : IsLogAfter settings log (take number items) after
  output : List ℕ
  prices : List ℕ
  made : Made settings log after output prices
  n : ℕ
  within : n ≤ length output
  m : ℕ
  within_prices : m ≤ length prices
  part : GetsBoth (take n output) (take m prices) gets
  unbound : bound ≡ []
  broken : stop ≡ None

at_once : (settings : admission.Settings) (log : History) (items : List Item) (bound : List Binding) (gets : Place → List ℕ) (stop : Option End) → StopsHere bound gets stop → PartWay settings log items bound gets stop
at_once settings log items bound gets stop h = record {
  number = 0;
  after = log;
  log_is = refl;
  output = [];
  prices = [];
  made = made_nothing settings log;
  n = 0;
  within = omega arith;
  m = 0;
  within_prices = omega arith;
  part = λ p. h.nothing p ∙ sym (no_pieces p);
  unbound = h.unbound;
  broken = h.broken;
}

module _ (settings : admission.Settings) (log : History) (item : Item) (items : List Item) (added : Option Event) (adds : Adds settings log item added) (bound : List Binding) (gets : Place → List ℕ) (stop : Option End) (output prices : List ℕ) (made : Made settings log (log_with log added) output prices) where
  -- what the items behind an item make, with the item's own pieces before it
  through_more : (next : History → Script) (holds : Place → List ℕ → Type 0) (rest : Place → List ℕ) → BothFirst output prices rest gets → Through settings next (log_with log added) items holds bound rest stop → Through settings next log (item ∷ items) holds bound gets stop
  through_more next holds rest first t = record {
    after = t.after;
    log_is = (added, adds, t.log_is);
    output = output ++ t.output;
    prices = prices ++ t.prices;
    made = made_on settings log (log_with log added) t.after output prices t.output t.prices made t.made;
    rest = t.rest;
    first = first_more output prices t.output t.prices t.rest rest gets first t.first;
    gives = t.gives;
  }

  part_more : (rest : Place → List ℕ) → BothFirst output prices rest gets → PartWay settings (log_with log added) items bound rest stop → PartWay settings log (item ∷ items) bound gets stop
  part_more rest first t = record {
    number = suc t.number;
    after = t.after;
    log_is = (added, adds, t.log_is);
    output = output ++ t.output;
    prices = prices ++ t.prices;
    made = made_on settings log (log_with log added) t.after output prices t.output t.prices made t.made;
    n = length output + t.n;
    within = omega (arith, t.within, length-append output t.output);
    m = length prices + t.m;
    within_prices = omega (arith, t.within_prices, length-append prices t.prices);
    part = λ p. both_behind output prices (take t.n t.output) (take t.m t.prices) rest gets first t.part p ∙ sym (λ i. pieces_for (taken_so output t.output t.n i) (taken_so prices t.prices t.m i) p);
    unbound = t.unbound;
    broken = t.broken;
  }

  -- writing the item's own pieces broke off
  part_here : (n m : ℕ) → n ≤ length output → m ≤ length prices → GetsBoth (take n output) (take m prices) gets → bound ≡ [] → stop ≡ None → PartWay settings log (item ∷ items) bound gets stop
  part_here n m within within_prices part unbound broken = record {
    number = 1;
    after = log_with log added;
    log_is = (added, adds, refl);
    output = output;
    prices = prices;
    made = made;
    n = n;
    within = within;
    m = m;
    within_prices = within_prices;
    part = part;
    unbound = unbound;
    broken = broken;
  }

abbrev Items : admission.Settings → (History → Script) → History → List Item → (Place → List ℕ → Type 0) → List Binding → (Place → List ℕ) → Option End → Type 0
Items settings next log items holds bound gets stop = Through settings next log items holds bound gets stop ⊎ PartWay settings log items bound gets stop

module _ (settings : admission.Settings) (next : History → Script) (log : History) (item : Item) (items : List Item) (holds : Place → List ℕ → Type 0) (bound : List Binding) (stop : Option End) (a : Added settings log item) where
  abbrev longer : History
  longer = log_with log a.event

  -- the same of the items behind this one
  abbrev Again : Type 0
  Again = (gets : Place → List ℕ) → Gives (items_script settings next longer items) holds bound gets stop → Items settings next longer items holds bound gets stop

  behind : (output prices : List ℕ) (rest gets : Place → List ℕ) → Made settings log longer output prices → BothFirst output prices rest gets → Items settings next longer items holds bound rest stop → Items settings next log (item ∷ items) holds bound gets stop
  behind output prices rest gets made first (inl t) = inl (through_more settings log item items a.event a.adds bound gets stop output prices made next holds rest first t)
  behind output prices rest gets made first (inr t) = inr (part_more settings log item items a.event a.adds bound gets stop output prices made rest first t)

  silent : shows a.event ≡ false → Made settings log longer [] []
  silent e = record {
    output_grows = silent_grows settings (IsEditionAt settings) (output_kept settings) log item a.event a.adds e;
    prices_grow = silent_grows settings (ArePricesOf settings) (prices_kept settings) log item a.event a.adds e;
  }

  shown : (e : EditionOf settings longer) → shows a.event ≡ true → Made settings log longer e.octets e.prices
  shown e is = record {
    output_grows = tick_grows settings (IsEditionAt settings) (output_kept settings) log item a.event e.octets a.adds is e.is;
    prices_grow = tick_grows settings (ArePricesOf settings) (prices_kept settings) log item a.event e.prices a.adds is e.priced;
  }

  by_edition : (b : Bool) (gets : Place → List ℕ) → shows a.event ≡ b → Again → Gives (edition_script settings longer b (items_script settings next longer items)) holds bound gets stop → Items settings next log (item ∷ items) holds bound gets stop
  unfolding Gives
  by_edition false gets e again h = behind [] [] gets gets (silent e) (nothing_first gets) (again gets h)
  by_edition true gets e again (inl s) = inr (at_once settings log (item ∷ items) bound gets stop s)
  by_edition true gets e again (inr (x, inl w)) = inr (part_here settings log item items a.event a.adds bound gets stop x.octets x.prices (shown x e) w.n 0 w.within (omega arith) (λ p. w.part p ∙ sym (for_output (take w.n x.octets) p)) w.unbound w.broken)
  by_edition true gets e again (inr (x, inr (mid, first, inl w))) = inr (part_here settings log item items a.event a.adds bound gets stop x.octets x.prices (shown x e) (length x.octets) w.n (omega arith) w.within
      (λ p. first p ∙ (λ i. piece_for places.Output (sym (take_all (length x.octets) x.octets (omega arith)) i) p ++ w.part p i)) w.unbound w.broken)
  by_edition true gets e again (inr (x, inr (mid, first, inr h))) = behind x.octets x.prices h.0 gets (shown x e) (one_after_other x.octets x.prices h.0 mid gets first h.1) (again h.0 h.2)

items_give : (settings : admission.Settings) (next : History → Script) (log : History) (items : List Item) (holds : Place → List ℕ → Type 0) (bound : List Binding) (gets : Place → List ℕ) (stop : Option End) → Gives (items_script settings next log items) holds bound gets stop → Items settings next log items holds bound gets stop
unfolding Gives items_script
items_give settings next log [] holds bound gets stop h = inl (record { after = log; log_is = refl; output = []; prices = []; made = made_nothing settings log; rest = gets; first = nothing_first gets; gives = h })
items_give settings next log (item ∷ items) holds bound gets stop (inl s) = inr (at_once settings log (item ∷ items) bound gets stop s)
items_give settings next log (item ∷ items) holds bound gets stop (inr (a, h)) = by_edition settings next log item items holds bound stop a (shows a.event) gets refl (λ g. items_give settings next (log_with log a.event) items holds bound g stop) h

-- ---- what was read of Input

-- The replay came to its end, or broke off: what Output and the records of Prices got.
record Whole (settings : admission.Settings) (octets : List ℕ) (gets : Place → List ℕ) (stop : Option End) : Type 0 where
  reading : HasInput octets
  log : History
  log_is : IsLogAfter settings (empty_log reading.start) reading.items log
  output : List ℕ
  output_is : IsOutput settings log output
  records : List ℕ
  records_are : AreOfAll (ArePricesOf settings) log records
  got : GetsBoth output records gets
  end_is : stop ≡ Some (end_at reading.fault (counts_of (tells_biases octets) reading.items log))

record Partly (settings : admission.Settings) (octets : List ℕ) (gets : Place → List ℕ) (stop : Option End) : Type 0 where
  reading : HasInput octets
  number : ℕ
  log : History
  log_is : IsLogAfter settings (empty_log reading.start) (take number reading.items) log
  output : List ℕ
  output_is : IsOutput settings log output
  records : List ℕ
  records_are : AreOfAll (ArePricesOf settings) log records
  n : ℕ
  within : n ≤ length output
  m : ℕ
  within_prices : m ≤ length records
  part : GetsBoth (take n output) (take m records) gets
  broken : stop ≡ None

first_of : (AreOf : History → ℕ × ℕ → List ℕ → Type 0) (start : ℕ) (log : History) (piece : List ℕ) → Grows AreOf (empty_log start) log piece → AreOfAll AreOf log piece
first_of AreOf start log piece grows = grows [] (record { pieces = []; editions = tt; whole = refl })

part_of_input : (settings : admission.Settings) (octets : List ℕ) (r : HasInput octets) (bound : List Binding) (gets : Place → List ℕ) (stop : Option End) → PartWay settings (empty_log r.start) r.items bound gets stop → Partly settings octets gets stop
part_of_input settings octets r bound gets stop t = record {
  reading = r;
  number = t.number;
  log = t.after;
  log_is = t.log_is;
  output = t.output;
  output_is = first_of (IsEditionAt settings) r.start t.after t.output t.made.output_grows;
  records = t.prices;
  records_are = first_of (ArePricesOf settings) r.start t.after t.prices t.made.prices_grow;
  n = t.n;
  within = t.within;
  m = t.m;
  within_prices = t.within_prices;
  part = t.part;
  broken = t.broken;
}

-- nothing was written, as it broke off at once
record Nothing (gets : Place → List ℕ) (stop : Option End) : Type 0 where
  nothing : GetsNothing gets
  broken : stop ≡ None

-- what gets a piece and then nothing
pub no_more : (piece : List ℕ) (rest gets : Place → List ℕ) → GetsFirst places.Output piece rest gets → GetsNothing rest → (p : Place) → gets p ≡ piece_for places.Output piece p
no_more piece rest gets first none p = first p ∙ ap (λ x. piece_for places.Output piece p ++ x) (none p) ∙ append-nil (piece_for places.Output piece p)

octets_give : (settings : admission.Settings) (octets : List ℕ) (holds : Place → List ℕ → Type 0) (bound : List Binding) (gets : Place → List ℕ) (stop : Option End) → Gives (octets_script settings octets) holds bound gets stop → (bound ≡ []) × (Whole settings octets gets stop ⊎ (Partly settings octets gets stop ⊎ Nothing gets stop))
unfolding Gives
octets_give settings octets holds bound gets stop (inl s) = (s.unbound, inr (inr (record { nothing = s.nothing; broken = s.broken })))
octets_give settings octets holds bound gets stop (inr (r, h)) =
    elim (items_give settings (ending (tells_biases octets) r.fault r.items) (empty_log r.start) r.items holds bound gets stop h) [
      | inr t ↦ (t.unbound, inr (inl (part_of_input settings octets r bound gets stop t)))
      | inl t ↦ through t t.gives
    ]
  where
    through : (t : Through settings (ending (tells_biases octets) r.fault r.items) (empty_log r.start) r.items holds bound gets stop) → Gives (ends (end_at r.fault (counts_of (tells_biases octets) r.items t.after))) holds bound t.rest stop → (bound ≡ []) × (Whole settings octets gets stop ⊎ (Partly settings octets gets stop ⊎ Nothing gets stop))
    through t (inl s) = (
      s.unbound,
      inr (inl (part_of_input settings octets r bound gets stop (record {
        number = length r.items;
        after = t.after;
        log_is = subst (λ (its : List Item). IsLogAfter settings (empty_log r.start) its t.after) (sym (take_all (length r.items) r.items (omega arith))) t.log_is;
        output = t.output;
        prices = t.prices;
        made = t.made;
        n = length t.output;
        within = omega arith;
        m = length t.prices;
        within_prices = omega arith;
        part = λ p. and_no_more t.output t.prices t.rest gets t.first s.nothing p ∙ sym (λ i. pieces_for (take_all (length t.output) t.output (omega arith) i) (take_all (length t.prices) t.prices (omega arith) i) p);
        unbound = s.unbound;
        broken = s.broken;
      }))),
    )
    through t (inr s) = (
      s.0,
      inl (record {
        reading = r;
        log = t.after;
        log_is = t.log_is;
        output = t.output;
        output_is = first_of (IsEditionAt settings) r.start t.after t.output t.made.output_grows;
        records = t.prices;
        records_are = first_of (ArePricesOf settings) r.start t.after t.prices t.made.prices_grow;
        got = and_no_more t.output t.prices t.rest gets t.first s.1;
        end_is = s.2;
      }),
    )

-- ---- with the four octets before

-- The replay came to its end; or it broke off among the items; or Prices got no more than a prefix of its first octets.
pub record PricedWhole (settings : admission.Settings) (octets : List ℕ) (gets : Place → List ℕ) (stop : Option End) : Type 0 where
  pub reading : HasInput octets
  pub log : History
  pub log_is : IsLogAfter settings (empty_log reading.start) reading.items log
  pub output : List ℕ
  pub output_is : IsOutput settings log output
  pub prices : List ℕ
  pub prices_are : IsPrices settings log prices
  pub got : GetsBoth output prices gets
  pub end_is : stop ≡ Some (end_at reading.fault (counts_of (tells_biases octets) reading.items log))

pub record PricedPartly (settings : admission.Settings) (octets : List ℕ) (gets : Place → List ℕ) (stop : Option End) : Type 0 where
  pub output : List ℕ
  pub prices : List ℕ
  pub partly : ReplaysPartly settings octets output prices
  pub got : GetsBoth output prices gets
  pub broken : stop ≡ None

pub record BrokeBeginning (gets : Place → List ℕ) (stop : Option End) : Type 0 where
  pub began : BeganPrices gets
  pub broken : stop ≡ None

abbrev pub PricesGive : admission.Settings → List ℕ → (Place → List ℕ) → Option End → Type 0
PricesGive settings octets gets stop = PricedWhole settings octets gets stop ⊎ (PricedPartly settings octets gets stop ⊎ BrokeBeginning gets stop)

magic_first : (rest gets : Place → List ℕ) → GetsFirst places.Prices magic rest gets → BothFirst [] magic rest gets
magic_first rest gets h p = h p ∙ ap (λ x. x ++ rest p) (sym (for_prices magic p))

module _ (settings : admission.Settings) (octets : List ℕ) (rest gets : Place → List ℕ) (stop : Option End) (first : GetsFirst places.Prices magic rest gets) where
  with_magic : Whole settings octets rest stop ⊎ (Partly settings octets rest stop ⊎ Nothing rest stop) → PricesGive settings octets gets stop
  with_magic (inl w) = inl (record {
    reading = w.reading;
    log = w.log;
    log_is = w.log_is;
    output = w.output;
    output_is = w.output_is;
    prices = magic ++ w.records;
    prices_are = record { records = w.records; are = w.records_are; begins = refl };
    got = both_behind [] magic w.output w.records rest gets (magic_first rest gets first) w.got;
    end_is = w.end_is;
  })
  with_magic (inr (inl t)) = inr (inl (record {
    output = take t.n t.output;
    prices = magic ++ take t.m t.records;
    partly = record {
      header = t.reading.header;
      start = t.reading.start;
      items = t.reading.items;
      fault = t.reading.fault;
      reading = t.reading.reading;
      number = t.number;
      log = t.log;
      log_is = t.log_is;
      whole = t.output;
      whole_is = t.output_is;
      n = t.n;
      within = t.within;
      part = refl;
      priced = magic ++ t.records;
      priced_is = record { records = t.records; are = t.records_are; begins = refl };
      m = length magic + t.m;
      within_prices = omega (arith, t.within_prices, length-append magic t.records);
      part_of_prices = sym (taken_so magic t.records t.m);
    };
    got = both_behind [] magic (take t.n t.output) (take t.m t.records) rest gets (magic_first rest gets first) t.part;
    broken = t.broken;
  }))
  with_magic (inr (inr e)) = inr (inr (record {
    began = record { n = length magic; within = omega arith; got = λ p. and_no_more [] magic rest gets (magic_first rest gets first) e.nothing p ∙ sym (ap (λ x. pieces_for [] x p) (take_all (length magic) magic (omega arith))) };
    broken = e.broken;
  }))

pub prices_give : (settings : admission.Settings) (octets : List ℕ) (holds : Place → List ℕ → Type 0) (bound : List Binding) (gets : Place → List ℕ) (stop : Option End) → Gives (prices_script settings octets) holds bound gets stop → (bound ≡ []) × PricesGive settings octets gets stop
unfolding Gives
prices_give settings octets holds bound gets stop (inl w) = (w.unbound, inr (inr (record { began = record { n = w.n; within = w.within; got = λ p. w.part p ∙ sym (for_prices (take w.n magic) p) }; broken = w.broken })))
prices_give settings octets holds bound gets stop (inr (rest, first, h)) =
    let o = octets_give settings octets holds bound rest stop h in
    (o.0, with_magic settings octets rest gets stop first o.1)
