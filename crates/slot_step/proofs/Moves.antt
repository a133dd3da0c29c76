-- A batch's plots move the tracks one after the other.
use Rattle.std.proofs.Common.{◌≡◌, ◌≢◌, ◌∙◌, ap, sym, refl, ℕ, zero, suc, ◌+◌, ◌<◌, append_assoc, List, [], ◌∷◌, ◌++◌, length, get_or, take, set, eqb, cond, Option, Some, None, length-append, arith, subst}
use Rattle.std.specs.Prelude.{All, IfSome}
use Rattle.std.proofs.lemmas.Bool.{eq-eqb}
use Rattle.std.proofs.lemmas.List.{append-nil, set-append_left, get_or_append_left}
use Rattle.assignment_dual.specs.Pairings.{Misses, Once}
use Rattle.slot_step.specs.Batches.{Tracking, entries, least, paired_plot, with_plot, updated_tracks, begun_tracks, batch_step}
use Rattle.slot_step.specs.Moving.{moved}
use Rattle.slot_step.proofs.Batching.{Unnamed, Below, below, eqb_not, least_length}
use Rattle.slot_step.proofs.Weaving.{least_is}

-- a track whose number stands in the entry at i is named by none before
missed : (t s : ℕ) (xs : List (Option ℕ)) (i : ℕ) → Misses s xs → i < length xs → get_or xs i None ≡ Some t → s ≢ t
missed t s [] i m lt e = absurd (omega (arith, lt))
missed t s (x ∷ xs) zero m lt e = λ q. m.0 (e ∙ ap Some (sym q))
missed t s (x ∷ xs) (suc i) m lt e = missed t s xs i m.1 (omega (arith, lt)) e

module _ {P : Type 0} where
  -- entries, one more
  entries_more : (d : P) (ps : List P) (xs : List (Option ℕ)) (i : ℕ) → i < length ps → i < length xs → entries (take (suc i) ps) (take (suc i) xs) ≡ entries (take i ps) (take i xs) ++ (get_or ps i d, get_or xs i None) ∷ []
  entries_more d [] xs i h g = absurd (omega (arith, h))
  entries_more d (p ∷ ps) [] i h g = absurd (omega (arith, g))
  entries_more d (p ∷ ps) (x ∷ xs) zero h g = refl
  entries_more d (p ∷ ps) (x ∷ xs) (suc i) h g = ap (λ (es : List (P × Option ℕ)). (p, x) ∷ es) (entries_more d ps xs i (omega (arith, h)) (omega (arith, g)))

  pub unnamed : (t : ℕ) (ps : List P) (xs : List (Option ℕ)) (i : ℕ) → Once xs → i < length xs → get_or xs i None ≡ Some t → Unnamed t (entries (take i ps) (take i xs))
  unnamed t ps xs zero o lt e = tt
  unnamed t [] xs (suc i) o lt e = tt
  unnamed t (p ∷ ps) [] (suc i) o lt e = absurd (omega (arith, lt))
  unnamed t (p ∷ ps) (None ∷ xs) (suc i) o lt e = unnamed t ps xs i o (omega (arith, lt)) e
  unnamed t (p ∷ ps) (Some s ∷ xs) (suc i) o lt e = (missed t s xs i o.0 (omega (arith, lt)) e, unnamed t ps xs i o.1 (omega (arith, lt)) e)

  none_paired : (t : ℕ) (es : List (P × Option ℕ)) → Unnamed t es → paired_plot es t ≡ None
  none_paired t [] u = refl
  none_paired t ((p, None) ∷ es) u = none_paired t es u
  none_paired t ((p, Some j) ∷ es) u = ap (λ b. cond b (Some p) (paired_plot es t)) (eqb_not j t u.0) ∙ none_paired t es u.1

  begun_paired : (es : List (P × Option ℕ)) (p : P) (j : ℕ) → paired_plot (es ++ (p, None) ∷ []) j ≡ paired_plot es j
  begun_paired [] p j = refl
  begun_paired ((q, None) ∷ es) p j = begun_paired es p j
  begun_paired ((q, Some k) ∷ es) p j = ap (cond (eqb k j) (Some q)) (begun_paired es p j)

  other_paired : (es : List (P × Option ℕ)) (p : P) (t j : ℕ) → j ≢ t → paired_plot (es ++ (p, Some t) ∷ []) j ≡ paired_plot es j
  other_paired [] p t j n = ap (λ b. cond b (Some p) None) (eqb_not t j (λ e. n (sym e)))
  other_paired ((q, None) ∷ es) p t j n = other_paired es p t j n
  other_paired ((q, Some k) ∷ es) p t j n = ap (cond (eqb k j) (Some q)) (other_paired es p t j n)

  own_paired : (es : List (P × Option ℕ)) (p : P) (t : ℕ) → Unnamed t es → paired_plot (es ++ (p, Some t) ∷ []) t ≡ Some p
  own_paired [] p t u = ap (λ b. cond b (Some p) None) (eq-eqb t t refl)
  own_paired ((q, None) ∷ es) p t u = own_paired es p t u
  own_paired ((q, Some k) ∷ es) p t u = ap (λ b. cond b (Some q) (paired_plot (es ++ (p, Some t) ∷ []) t)) (eqb_not k t u.0) ∙ own_paired es p t u.1

module _ {T P : Type 0} (k : Tracking T P) where
  updated_same : (f g : ℕ → Option P) (ts : List T) → ((j : ℕ) → g j ≡ f j) → updated_tracks k.update g ts ≡ updated_tracks k.update f ts
  updated_same f g [] h = refl
  updated_same f g (t ∷ ts) h = λ i. with_plot k.update t (h 0 i) ∷ updated_same (λ j. f (suc j)) (λ j. g (suc j)) ts (λ j. h (suc j)) i

  updated_at : (f g : ℕ → Option P) (ts : List T) (t : ℕ) (d : T) → t < length ts → ((j : ℕ) → j ≢ t → g j ≡ f j) → updated_tracks k.update g ts ≡ set (updated_tracks k.update f ts) t (with_plot k.update (get_or ts t d) (g t))
  updated_at f g [] t d lt h = absurd (omega (arith, lt))
  updated_at f g (x ∷ ts) zero d lt h = λ i. with_plot k.update x (g 0) ∷ updated_same (λ j. f (suc j)) (λ j. g (suc j)) ts (λ j. h (suc j) (λ e. omega (arith, e))) i
  updated_at f g (x ∷ ts) (suc t) d lt h = λ i. with_plot k.update x (h 0 (λ e. omega (arith, e)) i) ∷ updated_at (λ j. f (suc j)) (λ j. g (suc j)) ts t d (omega (arith, lt)) (λ j n. h (suc j) (λ e. n (omega (arith, e)))) i

  updated_length : (f : ℕ → Option P) (ts : List T) → length (updated_tracks k.update f ts) ≡ length ts
  updated_length f [] = refl
  updated_length f (t ∷ ts) = ap suc (updated_length (λ j. f (suc j)) ts)

  kept_at : (f : ℕ → Option P) (ts : List T) (t : ℕ) (d : T) → t < length ts → f t ≡ None → get_or (updated_tracks k.update f ts) t d ≡ get_or ts t d
  kept_at f [] t d lt e = absurd (omega (arith, lt))
  kept_at f (x ∷ ts) zero d lt e = ap (with_plot k.update x) e
  kept_at f (x ∷ ts) (suc t) d lt e = kept_at (λ j. f (suc j)) ts t d (omega (arith, lt)) e

  begun_more : (es : List (P × Option ℕ)) (p : P) → begun_tracks k.begin (es ++ (p, None) ∷ []) ≡ begun_tracks k.begin es ++ k.begin p ∷ []
  begun_more [] p = refl
  begun_more ((q, None) ∷ es) p = ap (λ (ts : List T). k.begin q ∷ ts) (begun_more es p)
  begun_more ((q, Some j) ∷ es) p = begun_more es p

  begun_still : (es : List (P × Option ℕ)) (p : P) (t : ℕ) → begun_tracks k.begin (es ++ (p, Some t) ∷ []) ≡ begun_tracks k.begin es
  begun_still [] p t = refl
  begun_still ((q, None) ∷ es) p t = ap (λ (ts : List T). k.begin q ∷ ts) (begun_still es p t)
  begun_still ((q, Some j) ∷ es) p t = begun_still es p t

  -- the tracks after these entries
  abbrev by : List T → List (P × Option ℕ) → List T
  by ts es = updated_tracks k.update (paired_plot es) ts ++ begun_tracks k.begin es

  by_begun : (ts : List T) (es : List (P × Option ℕ)) (p : P) → by ts (es ++ (p, None) ∷ []) ≡ by ts es ++ k.begin p ∷ []
  by_begun ts es p =
      ap (λ (us : List T). us ++ begun_tracks k.begin (es ++ (p, None) ∷ [])) (updated_same (paired_plot es) (paired_plot (es ++ (p, None) ∷ [])) ts (begun_paired es p))
      ∙ ap (λ (us : List T). updated_tracks k.update (paired_plot es) ts ++ us) (begun_more es p) ∙ sym (append_assoc (updated_tracks k.update (paired_plot es) ts) (begun_tracks k.begin es) (k.begin p ∷ []))

  by_paired : (ts : List T) (es : List (P × Option ℕ)) (p : P) (t : ℕ) (d : T) → t < length ts → Unnamed t es → by ts (es ++ (p, Some t) ∷ []) ≡ set (by ts es) t (k.update (get_or ts t d) p)
  by_paired ts es p t d lt u =
      let f = paired_plot es in
      let g = paired_plot (es ++ (p, Some t) ∷ []) in
      ap (λ (us : List T). us ++ begun_tracks k.begin (es ++ (p, Some t) ∷ [])) (updated_at f g ts t d lt (other_paired es p t) ∙ ap (λ (q : Option P). set (updated_tracks k.update f ts) t (with_plot k.update (get_or ts t d) q)) (own_paired es p t u))
      ∙ ap (λ (us : List T). set (updated_tracks k.update f ts) t (k.update (get_or ts t d) p) ++ us) (begun_still es p t)
      ∙ sym (set-append_left (updated_tracks k.update f ts) (begun_tracks k.begin es) t (k.update (get_or ts t d) p) (omega (arith, lt, updated_length f ts)))

  pub moved_none : (ts : List T) → moved k ts [] [] ≡ ts
  moved_none ts = append-nil (updated_tracks k.update (λ i. None) ts) ∙ still ts
    where
      still : (us : List T) → updated_tracks k.update (λ i. None) us ≡ us
      still [] = refl
      still (t ∷ us) = ap (λ (vs : List T). t ∷ vs) (still us)

  -- one plot more, which begins a track or updates one
  pub moved_begun : (ts : List T) (d : P) (ps : List P) (xs : List (Option ℕ)) (i : ℕ) → i < length ps → length xs ≡ length ps → get_or xs i None ≡ None
      → moved k ts (take (i + 1) ps) (take (i + 1) xs) ≡ moved k ts (take i ps) (take i xs) ++ k.begin (get_or ps i d) ∷ []
  moved_begun ts d ps xs i lt l e =
      let s : i + 1 ≡ suc i = omega arith in
      ap (λ n. by ts (entries (take n ps) (take n xs))) s ∙ ap (by ts) (entries_more d ps xs i lt (omega (arith, lt, l)) ∙ ap (λ (x : Option ℕ). entries (take i ps) (take i xs) ++ (get_or ps i d, x) ∷ []) e)
      ∙ by_begun ts (entries (take i ps) (take i xs)) (get_or ps i d)

  pub moved_paired : (ts : List T) (dt : T) (d : P) (ps : List P) (xs : List (Option ℕ)) (i t : ℕ) → i < length ps → length xs ≡ length ps → Once xs → t < length ts → get_or xs i None ≡ Some t
      → moved k ts (take (i + 1) ps) (take (i + 1) xs) ≡ set (moved k ts (take i ps) (take i xs)) t (k.update (get_or ts t dt) (get_or ps i d))
  moved_paired ts dt d ps xs i t lt l o h e =
      let s : i + 1 ≡ suc i = omega arith in
      ap (λ n. by ts (entries (take n ps) (take n xs))) s ∙ ap (by ts) (entries_more d ps xs i lt (omega (arith, lt, l)) ∙ ap (λ (x : Option ℕ). entries (take i ps) (take i xs) ++ (get_or ps i d, x) ∷ []) e)
      ∙ by_paired ts (entries (take i ps) (take i xs)) (get_or ps i d) t dt h (unnamed t ps xs i o (omega (arith, lt, l)) e)

  -- its track is as it was at the start
  pub not_moved : (ts : List T) (d : T) (ps : List P) (xs : List (Option ℕ)) (i t : ℕ) → i < length xs → Once xs → t < length ts → get_or xs i None ≡ Some t → get_or (moved k ts (take i ps) (take i xs)) t d ≡ get_or ts t d
  not_moved ts d ps xs i t lt o h e =
      let es = entries (take i ps) (take i xs) in
      get_or_append_left (updated_tracks k.update (paired_plot es) ts) (begun_tracks k.begin es) d t (omega (arith, h, updated_length (paired_plot es) ts))
      ∙ kept_at (paired_plot es) ts t d h (none_paired t es (unnamed t ps xs i o lt e))

  pub moved_longer : (ts : List T) (ps : List P) (xs : List (Option ℕ)) (t : ℕ) → t < length ts → t < length (moved k ts ps xs)
  moved_longer ts ps xs t h = omega (arith, h, updated_length (paired_plot (entries ps xs)) ts, length-append (updated_tracks k.update (paired_plot (entries ps xs)) ts) (begun_tracks k.begin (entries ps xs)))

below_all : (n : ℕ) (xs : List (Option ℕ)) → Below n xs → All (λ x. IfSome x (λ t. t < n)) xs
below_all n [] b i d lt = absurd (omega (arith, lt))
below_all n (None ∷ xs) b zero d lt = tt
below_all n (Some j ∷ xs) b zero d lt = b.0
below_all n (None ∷ xs) b (suc i) d lt = below_all n xs b i d (omega (arith, lt))
below_all n (Some j ∷ xs) b (suc i) d lt = below_all n xs b.1 i d (omega (arith, lt))

module _ {T P : Type 0} (k : Tracking T P) where
  -- what holds of the least pairing holds of one that is it
  pub least_inside : (ts : List T) (ps : List P) (xs : List (Option ℕ)) → xs ≡ least k ts ps → All (λ x. IfSome x (λ t. t < length ts)) xs
  least_inside ts ps xs e = subst (All (λ x. IfSome x (λ t. t < length ts))) (sym e) (below_all (length ts) (least k ts ps) (below k ts ps))

  pub least_once : (ts : List T) (ps : List P) (xs : List (Option ℕ)) → xs ≡ least k ts ps → Once xs
  least_once ts ps xs e = subst Once (sym e) (least_is k ts ps).pairing.once

  pub least_count : (ts : List T) (ps : List P) (xs : List (Option ℕ)) → xs ≡ least k ts ps → length xs ≡ length ps
  least_count ts ps xs e = ap length e ∙ least_length k ts ps

  pub moved_is : (ts : List T) (ps : List P) (xs : List (Option ℕ)) → xs ≡ least k ts ps → moved k ts ps xs ≡ batch_step k ts ps
  unfolding batch_step
  moved_is ts ps xs e = ap (moved k ts ps) e
