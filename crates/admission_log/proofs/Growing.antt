-- What a log tells with one more event, and that it stays legal.
use Rattle.std.proofs.Common.{◌≡◌, ◌∙◌, ap, sym, subst, refl, ℕ, zero, suc, ◌+◌, ◌<◌, ◌≤◌, max, List, [], ◌∷◌, ◌++◌, length, take, Some, ◌⊎◌, inl, inr, arith, length-append, append-nil}
use Rattle.std.specs.Prelude.{slice_get, fold}
use Rattle.std.specs.List.{filter_map, flat_map}
use Rattle.std.proofs.lemmas.List.{take-append-le}
use Rattle.std.proofs.lemmas.List.Elements.{filter_map-append}
use Rattle.std.proofs.lemmas.List.Sums.{fold-append}
use Rattle.std.proofs.lemmas.Grind.{flat_map-append}
use Rattle.std.proofs.Math.Seq.{take-append_seam}
use Rattle.admission_log.specs.declared.settings.Settings.{Settings}
use Rattle.admission_log.specs.declared.events.Event.{Event}
use Rattle.admission_log.specs.Histories.{History, appended, tick_in, admitted_in, published_in, last_of, admitted_of, next_of, publications_of, published_of, cut_of}
use Rattle.admission_log.specs.Legality.{IsLegal, IsLegalEvent}

-- an element of a list with one more is an earlier one, or that one
slice_get_grown : {X : Type 0} (xs : List X) (y : X) (n : ℕ) (x : X) → slice_get (xs ++ y ∷ []) n ≡ Some x → ((n < length xs) × (slice_get xs n ≡ Some x)) ⊎ ((n ≡ length xs) × (y ≡ x))
slice_get_grown [] y zero x h = inr (refl, cc)
slice_get_grown [] y (suc n) x h = absurd (cc)
slice_get_grown (z ∷ xs) y zero x h = inl (omega arith, h)
slice_get_grown (z ∷ xs) y (suc n) x h = elim (slice_get_grown xs y n x h) [
  | inl early ↦ inl (let lt : n < length xs = early.0 in omega arith, early.1)
  | inr last ↦ inr (ap suc last.0, last.1)
]

-- one more event that fits keeps the log legal
pub legal_appended : (settings : Settings) (h : History) (e : Event) → IsLegal settings h → IsLegalEvent settings h e → IsLegal settings (appended h e)
legal_appended settings h e legal fits = record {
  each = λ place event at. elim (slice_get_grown h.events e place event at) [
    | inl early ↦ (let lt : place ≤ length h.events = omega (arith, early.0) in
        subst (λ events. IsLegalEvent settings (record { start = h.start; events = events }) event) (sym (take-append-le place h.events (e ∷ []) lt)) (legal.each place event early.1))
    | inr last ↦ (let whole : take place (h.events ++ e ∷ []) ≡ h.events = ap (λ n. take n (h.events ++ e ∷ [])) last.0 ∙ take-append_seam h.events (e ∷ []) in
        subst (λ events. IsLegalEvent settings (record { start = h.start; events = events }) event) (sym whole) (subst (λ x. IsLegalEvent settings h x) last.1 fits))
  ];
}

-- ---- what it tells

pub events-appended : (h : History) (e : Event) → length (h.events ++ e ∷ []) ≡ length h.events + 1
events-appended h e = length-append h.events (e ∷ [])

pub last-appended : (h : History) (e : Event) → last_of (appended h e) ≡ fold max (last_of h) (filter_map tick_in (e ∷ []))
last-appended h e = ap (fold max h.start) (filter_map-append tick_in h.events (e ∷ [])) ∙ fold-append max h.start (filter_map tick_in h.events) (filter_map tick_in (e ∷ []))

pub admitted-appended : (h : History) (e : Event) → admitted_of (appended h e) ≡ admitted_of h ++ flat_map admitted_in (e ∷ [])
admitted-appended h e = flat_map-append admitted_in h.events (e ∷ [])

pub next-appended : (h : History) (e : Event) → next_of (appended h e) ≡ next_of h + length (flat_map admitted_in (e ∷ []))
next-appended h e = ap length (admitted-appended h e) ∙ length-append (admitted_of h) (flat_map admitted_in (e ∷ []))

pub publications-appended : (h : History) (e : Event) → publications_of (appended h e) ≡ publications_of h ++ filter_map published_in (e ∷ [])
publications-appended h e = filter_map-append published_in h.events (e ∷ [])

pub published-appended : (h : History) (e : Event) → published_of (appended h e) ≡ published_of h + length (filter_map published_in (e ∷ []))
published-appended h e = ap length (publications-appended h e) ∙ length-append (publications_of h) (filter_map published_in (e ∷ []))

pub cut-appended : (h : History) (e : Event) → cut_of (appended h e) ≡ fold (λ cut p. max cut p.1) (cut_of h) (filter_map published_in (e ∷ []))
cut-appended h e = ap (fold (λ cut p. max cut p.1) 0) (publications-appended h e) ∙ fold-append (λ cut p. max cut p.1) 0 (publications_of h) (filter_map published_in (e ∷ []))

-- the next arrival is behind those of the event
pub next-grown : (h : History) (e : Event) → next_of (appended h e) ≡ next_of h + length (admitted_in e)
next-grown h e = next-appended h e ∙ ap (λ t. next_of h + length t) (append-nil (admitted_in e))
