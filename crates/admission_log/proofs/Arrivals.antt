-- The arrivals of a legal log are the numbers from 0 on.
use Rattle.std.proofs.Common.{◌≡◌, ◌∙◌, ap, sym, refl, ℕ, zero, suc, ◌+◌, ◌∷◌, ◌++◌, length, map, arith, append-nil}
use Rattle.std.specs.List.{range_with_len}
use Rattle.std.proofs.lemmas.List.{map-append}
use Rattle.admission_log.specs.declared.settings.Settings.{Settings}
use Rattle.admission_log.specs.declared.events.Admitted.{Admitted}
use Rattle.admission_log.specs.declared.events.Event.{Event}
use Rattle.admission_log.specs.declared.events.Event.TheVariants.{Deliver, Tick, Publish, Bias}
use Rattle.admission_log.specs.Histories.{History, appended, admitted_in, admitted_of, next_of}
use Rattle.admission_log.specs.Legality.{IsLegal, IsLegalEvent}
use Rattle.admission_log.proofs.Growing.{admitted-appended, next-grown}
use Rattle.admission_log.proofs.Prefixes.{by_events}

range_join : (a n m : ℕ) → range_with_len a n ++ range_with_len (a + n) m ≡ range_with_len a (n + m)
range_join a zero m =
    let p : a + 0 ≡ a = omega arith in
    let q : m ≡ 0 + m = omega arith in
    λ i. range_with_len (p i) (q i)
range_join a (suc n) m =
    let p : a + suc n ≡ a + 1 + n = omega arith in
    let q : suc (n + m) ≡ suc n + m = omega arith in
    ap (λ t. a ∷ t) (ap (λ k. range_with_len (a + 1) n ++ range_with_len k m) p ∙ range_join (a + 1) n m) ∙ ap (range_with_len a) q

-- those of an event are the next ones
pub of_event : (settings : Settings) (before : History) (e : Event) → IsLegalEvent settings before e → map (λ a. a.arrival) (admitted_in e) ≡ range_with_len (next_of before) (length (admitted_in e))
of_event settings before (Deliver feed admitted told other) h = h.own_arrivals ∙ h.arrivals
of_event settings before (Tick time) h = refl
of_event settings before (Publish number cut) h = refl
of_event settings before (Bias radar slot bias) h = refl

-- the arrivals are the numbers from 0 on
abbrev Counts : History → Type 0
Counts log = map (λ a. a.arrival) (admitted_of log) ≡ range_with_len 0 (next_of log)

counts_more : (settings : Settings) (before : History) (e : Event) → IsLegalEvent settings before e → Counts before → Counts (appended before e)
counts_more settings before e fits h =
    let arrival : Admitted → ℕ = λ a. a.arrival in
    let k = next_of before in
    let m = length (admitted_in e) in
    let at : k ≡ 0 + k = omega arith in
    ap (map arrival) (admitted-appended before e ∙ ap (λ t. admitted_of before ++ t) (append-nil (admitted_in e)))
    ∙ map-append arrival (admitted_of before) (admitted_in e)
    ∙ (λ i. h i ++ of_event settings before e fits i)
    ∙ ap (λ n. range_with_len 0 k ++ range_with_len n m) at
    ∙ range_join 0 k m
    ∙ ap (range_with_len 0) (sym (next-grown before e))

pub arrivals_count : (settings : Settings) (log : History) → IsLegal settings log → map (λ a. a.arrival) (admitted_of log) ≡ range_with_len 0 (next_of log)
arrivals_count settings log legal = by_events settings log legal Counts refl (counts_more settings)
