-- Messages judged one after the other, which is the one way to judge each under the arrival that follows those before it.
use Rattle.std.proofs.Common.{◌≡◌, ◌∙◌, ap, sym, subst, refl, ℕ, zero, suc, ◌+◌, List, [], ◌∷◌, ◌++◌, length, take, Some, Result, Ok, Err, arith}
use Rattle.std.specs.Prelude.{slice_get}
use Rattle.std.proofs.lemmas.Option.{none-some, same_Some}
use Rattle.asterix_frame.specs.Datagrams.{Content}
use Rattle.admission_log.specs.declared.settings.Settings.{Settings}
use Rattle.admission_log.specs.declared.events.Admitted.{Admitted}
use Rattle.admission_log.specs.declared.events.Outcome.{Outcome}
use Rattle.admission_log.specs.declared.events.Event.{Event}
use Rattle.admission_log.specs.Messages.{Message, Said, said_by}
use Rattle.admission_log.specs.Deliveries.{judged_message, admitted_count, AreJudged, delivered, IsDelivery, IsDeliveryOf}

-- the arrival that comes next
abbrev pub next_after : ℕ → Result Admitted Outcome → ℕ
next_after next (Ok a) = next + 1
next_after next (Err outcome) = next

-- what is judged of each message, in order
abbrev pub judged_all : Settings → ℕ → ℕ → List Message → List (Result Admitted Outcome)
judged_all settings last next [] = []
judged_all settings last next (m ∷ ms) = judged_message settings last next m ∷ judged_all settings last (next_after next (judged_message settings last next m)) ms

-- the event of a datagram that says this
abbrev pub delivery_of : Settings → ℕ → ℕ → ℕ → Said → Event
delivery_of settings last next feed said = delivered feed (judged_all settings last next said.messages) said.other

-- .. of a datagram of these blocks
abbrev pub delivery : Settings → ℕ → ℕ → ℕ → List Content → Event
delivery settings last next feed contents = delivery_of settings last next feed (said_by contents)

-- the arrival after what was judged
pub next_counts : (next : ℕ) (j : Result Admitted Outcome) → next_after next j ≡ next + admitted_count (j ∷ [])
next_counts next (Ok a) = refl
next_counts next (Err o) = omega arith

counts_more : (next : ℕ) (j : Result Admitted Outcome) (js : List (Result Admitted Outcome)) → next_after next j + admitted_count js ≡ next + admitted_count (j ∷ js)
counts_more next (Ok a) js = omega arith
counts_more next (Err o) js = refl

-- those of a prefix, and then those of the rest
pub judged_all-append : (settings : Settings) (last next : ℕ) (ms ns : List Message)
    → judged_all settings last next (ms ++ ns) ≡ judged_all settings last next ms ++ judged_all settings last (next + admitted_count (judged_all settings last next ms)) ns
judged_all-append settings last next [] ns = ap (λ n. judged_all settings last n ns) (omega arith)
judged_all-append settings last next (m ∷ ms) ns =
    let j = judged_message settings last next m in
    let js = judged_all settings last (next_after next j) ms in
    ap (λ t. j ∷ t) (judged_all-append settings last (next_after next j) ms ns ∙ ap (λ n. js ++ judged_all settings last n ns) (counts_more next j js))

-- ---- by index

length-judged : (settings : Settings) (last next : ℕ) (ms : List Message) → length (judged_all settings last next ms) ≡ length ms
length-judged settings last next [] = refl
length-judged settings last next (m ∷ ms) = ap suc (length-judged settings last (next_after next (judged_message settings last next m)) ms)

each_judged : (settings : Settings) (last next : ℕ) (ms : List Message) (index : ℕ) (m : Message) → slice_get ms index ≡ Some m
    → slice_get (judged_all settings last next ms) index ≡ Some (judged_message settings last (next + admitted_count (take index (judged_all settings last next ms))) m)
each_judged settings last next [] index m at = absurd (none-some m at)
each_judged settings last next (x ∷ ms) zero m at =
    let same : x ≡ m = same_Some x m at in
    let more : next ≡ next + 0 = omega arith in
    λ i. Some (judged_message settings last (more i) (same i))
each_judged settings last next (x ∷ ms) (suc index) m at =
    let j = judged_message settings last next x in
    let js = judged_all settings last (next_after next j) ms in
    each_judged settings last (next_after next j) ms index m at ∙ ap (λ n. Some (judged_message settings last n m)) (counts_more next j (take index js))

pub are_judged : (settings : Settings) (last next : ℕ) (ms : List Message) → AreJudged settings last next ms (judged_all settings last next ms)
are_judged settings last next ms = record {
  all = length-judged settings last next ms;
  each = each_judged settings last next ms;
}

pub one_judgement : (settings : Settings) (last next : ℕ) (ms : List Message) (js : List (Result Admitted Outcome)) → AreJudged settings last next ms js → js ≡ judged_all settings last next ms
one_judgement settings last next [] [] h = refl
one_judgement settings last next [] (j ∷ js) h = absurd (omega (arith, h.all))
one_judgement settings last next (m ∷ ms) [] h = absurd (omega (arith, h.all))
one_judgement settings last next (m ∷ ms) (j ∷ js) h =
    let none : next + 0 ≡ next = omega arith in
    let first : j ≡ judged_message settings last next m = same_Some j (judged_message settings last (next + 0) m) (h.each 0 m refl) ∙ ap (λ n. judged_message settings last n m) none in
    let rest : AreJudged settings last (next_after next j) ms js = record {
      all = omega (arith, h.all);
      each = λ index x at. h.each (suc index) x at ∙ ap (λ n. Some (judged_message settings last n x)) (sym (counts_more next j (take index js)));
    } in
    (λ i. first i ∷ one_judgement settings last (next_after next j) ms js rest i) ∙ ap (λ r. judged_message settings last next m ∷ judged_all settings last (next_after next r) ms) first

-- those of a prefix, and then those of the rest
pub judged_more : (settings : Settings) (last next : ℕ) (ms ns : List Message) (js ks : List (Result Admitted Outcome))
    → AreJudged settings last next ms js → AreJudged settings last (next + admitted_count js) ns ks → AreJudged settings last next (ms ++ ns) (js ++ ks)
judged_more settings last next ms ns js ks h k =
    let first = one_judgement settings last next ms js h in
    let rest = one_judgement settings last (next + admitted_count js) ns ks k in
    let same : judged_all settings last next (ms ++ ns) ≡ js ++ ks =
    judged_all-append settings last next ms ns ∙ sym ((λ i. first i ++ rest i) ∙ ap (λ js. judged_all settings last next ms ++ judged_all settings last (next + admitted_count js) ns) first) in
    subst (AreJudged settings last next (ms ++ ns)) same (are_judged settings last next (ms ++ ns))

-- one alone
pub judged_one : (settings : Settings) (last next : ℕ) (m : Message) (j : Result Admitted Outcome) → j ≡ judged_message settings last next m → AreJudged settings last next (m ∷ []) (j ∷ [])
judged_one settings last next m j same = subst (λ x. AreJudged settings last next (m ∷ []) (x ∷ [])) (sym same) (are_judged settings last next (m ∷ []))

-- ---- deliveries

pub is_delivery_of : (settings : Settings) (last next feed : ℕ) (said : Said) → IsDeliveryOf settings last next feed said (delivery_of settings last next feed said)
is_delivery_of settings last next feed said = record {
  judgements = judged_all settings last next said.messages;
  are_judged = are_judged settings last next said.messages;
  event_is = refl;
}

pub is_delivery : (settings : Settings) (last next feed : ℕ) (contents : List Content) → IsDelivery settings last next feed contents (delivery settings last next feed contents)
is_delivery settings last next feed contents = is_delivery_of settings last next feed (said_by contents)

pub delivery_is : (settings : Settings) (last next feed : ℕ) (said : Said) (event : Event) → IsDeliveryOf settings last next feed said event → event ≡ delivery_of settings last next feed said
delivery_is settings last next feed said event h =
    h.event_is ∙ ap (λ js. delivered feed js said.other) (one_judgement settings last next said.messages h.judgements h.are_judged)

pub one_delivery : (settings : Settings) (last next feed : ℕ) (contents : List Content) (a b : Event) → IsDelivery settings last next feed contents a → IsDelivery settings last next feed contents b → a ≡ b
one_delivery settings last next feed contents a b h k = delivery_is settings last next feed (said_by contents) a h ∙ sym (delivery_is settings last next feed (said_by contents) b k)
