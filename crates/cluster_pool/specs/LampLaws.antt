-- The laws of the two lamps.
use Rattle.std.proofs.Common.{◌≡◌, ◌∙◌, ap, refl, ℕ, zero, suc, ◌+◌, ◌<◌, List, [], ◌∷◌, length, Bool, true, false, cond, get_or, arith, subst, inl, inr, sym, zero-lt-suc}
use Rattle.std.specs.Prelude.{◌⊎◌, ◌↔◌, ◌&&◌, ◌||◌, Option, Some, None, Contains}
use Rattle.std.specs.List.{AllByRecursion}
use Rattle.std.proofs.lemmas.Bool.{cond_both}
use Rattle.span_clusters.specs.Interleavings.{Interleaved}
use Rattle.span_clusters.specs.Interleavings.Interleaved.{neither, first, second}
use Rattle.span_clusters.specs.Parts.{Reaches, AreApart}
use Rattle.span_clusters.proofs.Interleavings.{contains_first, contains_later, contains_cons, none_behind}
use Rattle.cluster_pool.specs.Lamps.{Item, is_left, is_right, count_at, lit, told, either, OneMissing, Lights, present, kept, Lamps, next, IsTold, AreBeside, merged, gates, both, picked, count}

-- one lamp

missing_back : (c d : Option ℕ) → OneMissing c d → OneMissing d c
missing_back None None h = tt
missing_back None (Some w) h = tt
missing_back (Some v) None h = tt
missing_back (Some v) (Some w) h = absurd h

missing_either : (c d e : Option ℕ) → OneMissing c d → OneMissing c e → OneMissing d e → OneMissing (either c d) e
missing_either None d e h k l = l
missing_either (Some v) d e h k l = k

missing_lit : (c d : Option ℕ) (j k : ℕ) → OneMissing c d → OneMissing (lit c j) (lit d k)
missing_lit None d j k h = tt
missing_lit (Some v) None j k h = tt
missing_lit (Some v) (Some w) j k h = absurd h

either_back : (c d : Option ℕ) → OneMissing c d → either c d ≡ either d c
either_back None None h = refl
either_back None (Some w) h = refl
either_back (Some v) None h = refl
either_back (Some v) (Some w) h = absurd h

either_rest : (c d e : Option ℕ) → either (either c d) e ≡ either c (either d e)
either_rest None d e = refl
either_rest (Some v) d e = refl

lit_rested : (c : Option ℕ) (k : ℕ) → lit (lit c 0) k ≡ lit c k
lit_rested None k = refl
lit_rested (Some v) k = let e : v + 0 + k ≡ v + k = omega arith in ap (λ (j : ℕ). Some j) e

told_rested : (c : Option ℕ) (k : ℕ) → told (lit c 0) k ≡ told c k
told_rested None k = refl
told_rested (Some v) k = refl

lights_rested : (c : Option ℕ) (b : Bool) → Lights (lit c 0) b → Lights c b
lights_rested None b h = h
lights_rested (Some v) b h = h

lights_either : (c d : Option ℕ) (b : Bool) → Lights (either c d) b → Lights c b ⊎ Lights d b
lights_either None d b h = inr h
lights_either (Some v) d b h = inl h

kept_all : (f : ℕ → Bool) (c : Option ℕ) (k : ℕ) → (0 < present c → f k ≡ true) → kept f c k ≡ c
kept_all f None k h = refl
kept_all f (Some v) k h = rw (h (omega arith)) refl

never_both : (a b : Bool) → a ≡ true → b ≡ true → (a && b) ≡ false → ⊥
never_both true true e i h = cc
never_both true false e i h = cc
never_both false b e i h = cc

kept_missing : (f g : ℕ → Bool) (c : Option ℕ) (k : ℕ) → (f k && g k) ≡ false → OneMissing (kept f c k) (kept g c k)
kept_missing f g None k h = tt
kept_missing f g (Some v) k h = cond_both (f k) (Some v) None (λ d. OneMissing d (kept g (Some v) k))
    (λ e. cond_both (g k) (Some v) None (λ d. OneMissing (Some v) d) (λ i. absurd (never_both (f k) (g k) e i h)) (λ i. tt))
    (λ e. tt)

either_test : (v : ℕ) (a b : Bool) → either (cond a (Some v) None) (cond b (Some v) None) ≡ cond (a || b) (Some v) None
either_test v true b = refl
either_test v false true = refl
either_test v false false = refl

kept_either : (f g : ℕ → Bool) (c : Option ℕ) (k : ℕ) → either (kept f c k) (kept g c k) ≡ kept (λ j. f j || g j) c k
kept_either f g None k = refl
kept_either f g (Some v) k = either_test v (f k) (g k)

-- items at one lamp's place

more_first : (b : Bool) (j k l : ℕ) → j ≡ k + l → cond b (suc j) j ≡ cond b (suc k) k + l
more_first true j k l e = omega (arith, e)
more_first false j k l e = e

more_second : (b : Bool) (j k l : ℕ) → j ≡ k + l → cond b (suc j) j ≡ k + cond b (suc l) l
more_second true j k l e = omega (arith, e)
more_second false j k l e = e

count_both : (f : Item → Bool) (xs ys zs : List Item) → Interleaved xs ys zs → count_at f zs ≡ count_at f xs + count_at f ys
count_both f _ _ _ neither = refl
count_both f _ _ _ (first x xs ys zs m) = more_first (f x) (count_at f zs) (count_at f xs) (count_at f ys) (count_both f xs ys zs m)
count_both f _ _ _ (second y xs ys zs m) = more_second (f y) (count_at f zs) (count_at f xs) (count_at f ys) (count_both f xs ys zs m)

-- the lamp lights none of them
abbrev Unlit : (Item → Bool) → Option ℕ → List Item → Type 0
Unlit f c xs = (x : Item) → Contains xs x → Lights c (f x) → ⊥

count_none : (f : Item → Bool) (v : ℕ) (xs : List Item) → Unlit f (Some v) xs → count_at f xs ≡ 0
count_none f v [] h = refl
count_none f v (x ∷ xs) h = cond_both (f x) (suc (count_at f xs)) (count_at f xs) (λ k. k ≡ 0)
    (λ e. absurd (h x (contains_first x x xs refl) e))
    (λ e. count_none f v xs (λ y c l. h y (contains_later x y xs c) l))

lit_both : (f : Item → Bool) (c d : Option ℕ) (xs ys zs : List Item) → Interleaved xs ys zs → OneMissing c d → Unlit f c ys → Unlit f d xs
    → lit (either c d) (count_at f zs) ≡ either (lit c (count_at f xs)) (lit d (count_at f ys))
lit_both f None None xs ys zs m h a b = refl
lit_both f None (Some w) xs ys zs m h a b =
    let e : count_at f zs ≡ count_at f ys = omega (arith, count_both f xs ys zs m, count_none f w xs b) in
    ap (λ k. Some (w + k)) e
lit_both f (Some v) None xs ys zs m h a b =
    let e : count_at f zs ≡ count_at f xs = omega (arith, count_both f xs ys zs m, count_none f v ys a) in
    ap (λ k. Some (v + k)) e
lit_both f (Some v) (Some w) xs ys zs m h a b = absurd h

told_both : (f : Item → Bool) (c d : Option ℕ) (xs ys zs : List Item) → Interleaved xs ys zs → OneMissing c d → Unlit f c ys → Unlit f d xs
    → told (either c d) (count_at f zs) ≡ told c (count_at f xs) + told d (count_at f ys)
told_both f None None xs ys zs m h a b = refl
told_both f None (Some w) xs ys zs m h a b = omega (arith, count_both f xs ys zs m, count_none f w xs b)
told_both f (Some v) None xs ys zs m h a b = omega (arith, count_both f xs ys zs m, count_none f v ys a)
told_both f (Some v) (Some w) xs ys zs m h a b = absurd h

-- both lamps

abbrev pair : {X Y : Type 0} → X → Y → X × Y
pair x y = (x, y)

pair_is : {X Y : Type 0} (a b : X) (c d : Y) → a ≡ b → c ≡ d → pair a c ≡ pair b d
pair_is a b c d e f = ap (λ x. pair x c) e ∙ ap (λ y. pair b y) f

pub beside_back : (s t : Lamps) → AreBeside s t → AreBeside t s
beside_back s t h = (missing_back s.0 t.0 h.0, missing_back s.1 t.1 h.1)

pub beside_merged : (s t r : Lamps) → AreBeside s t → AreBeside s r → AreBeside t r → AreBeside (merged s t) r
beside_merged s t r h k l = (missing_either s.0 t.0 r.0 h.0 k.0 l.0, missing_either s.1 t.1 r.1 h.1 k.1 l.1)

pub beside_next : (s t : Lamps) (n : ℕ) (xs ys : List Item) → AreBeside s t → AreBeside (next s n xs) (next t n ys)
beside_next s t n xs ys h = (missing_lit s.0 t.0 (count_at is_left xs) (count_at is_left ys) h.0, missing_lit s.1 t.1 (count_at is_right xs) (count_at is_right ys) h.1)

pub merged_back : (s t : Lamps) → AreBeside s t → merged s t ≡ merged t s
merged_back s t h = pair_is (either s.0 t.0) (either t.0 s.0) (either s.1 t.1) (either t.1 s.1) (either_back s.0 t.0 h.0) (either_back s.1 t.1 h.1)

pub merged_rest : (s t r : Lamps) → merged (merged s t) r ≡ merged s (merged t r)
merged_rest s t r = pair_is (either (either s.0 t.0) r.0) (either s.0 (either t.0 r.0)) (either (either s.1 t.1) r.1) (either s.1 (either t.1 r.1)) (either_rest s.0 t.0 r.0) (either_rest s.1 t.1 r.1)

all_at : (P : ℕ → Type 0) (i : ℕ) (ks : List ℕ) → AllByRecursion P ks → i < length ks → P (get_or ks i 0)
all_at P i [] h l = absurd (omega (arith, l))
all_at P zero (k ∷ ks) h l = h.0
all_at P (suc i) (k ∷ ks) h l = all_at P i ks h.1 (omega (arith, l))

pub picks_all : (s : Lamps) (numbers : List ℕ) (f : ℕ → Bool) → length numbers ≡ count s → AllByRecursion (λ k. f k ≡ true) numbers → picked s numbers f ≡ s
picks_all s numbers f e h = pair_is (kept f s.0 (get_or numbers 0 0)) s.0 (kept f s.1 (get_or numbers (present s.0) 0)) s.1
    (kept_all f s.0 (get_or numbers 0 0) (λ l. all_at (λ k. f k ≡ true) 0 numbers h (omega (arith, e, l))))
    (kept_all f s.1 (get_or numbers (present s.0) 0) (λ l. all_at (λ k. f k ≡ true) (present s.0) numbers h (omega (arith, e, l))))

pub picks_beside : (s : Lamps) (numbers : List ℕ) (f g : ℕ → Bool) → ((k : ℕ) → (f k && g k) ≡ false) → AreBeside (picked s numbers f) (picked s numbers g)
picks_beside s numbers f g h = (
  kept_missing f g s.0 (get_or numbers 0 0) (h (get_or numbers 0 0)),
  kept_missing f g s.1 (get_or numbers (present s.0) 0) (h (get_or numbers (present s.0) 0)),
)

pub picks_merged : (s : Lamps) (numbers : List ℕ) (f g : ℕ → Bool) → merged (picked s numbers f) (picked s numbers g) ≡ picked s numbers (λ k. f k || g k)
picks_merged s numbers f g =
    let i : ℕ = get_or numbers 0 0 in
    let j : ℕ = get_or numbers (present s.0) 0 in
    pair_is (either (kept f s.0 i) (kept g s.0 i)) (kept (λ k. f k || g k) s.0 i) (either (kept f s.1 j) (kept g s.1 j)) (kept (λ k. f k || g k) s.1 j) (kept_either f g s.0 i) (kept_either f g s.1 j)

either_lit : (s t u : Lamps) (x y : Bool) → (Lights s.0 x → Lights t.0 x ⊎ Lights u.0 x) → (Lights s.1 y → Lights t.1 y ⊎ Lights u.1 y)
    → Lights s.0 x ⊎ Lights s.1 y → (Lights t.0 x ⊎ Lights t.1 y) ⊎ (Lights u.0 x ⊎ Lights u.1 y)
either_lit s t u x y f g (inl h) = elim (f h) [ inl a ↦ inl (inl a) | inr b ↦ inr (inl b) ]
either_lit s t u x y f g (inr h) = elim (g h) [ inl a ↦ inl (inr a) | inr b ↦ inr (inr b) ]

pub gates_merged : (s t : Lamps) (n : ℕ) (xs ys zs : List Item) (x : Item) → gates (merged s t) n zs x → gates s n xs x ⊎ gates t n ys x
gates_merged s t n xs ys zs x h = either_lit (merged s t) s t (is_left x) (is_right x) (lights_either s.0 t.0 (is_left x)) (lights_either s.1 t.1 (is_right x)) h

pub next_merged : (s t : Lamps) (n : ℕ) (xs ys zs : List Item) → Interleaved xs ys zs → AreBeside s t → AreApart gates n s t xs ys → next (merged s t) n zs ≡ merged (next s n xs) (next t n ys)
next_merged s t n xs ys zs m b a = pair_is
    (lit (either s.0 t.0) (count_at is_left zs)) (either (lit s.0 (count_at is_left xs)) (lit t.0 (count_at is_left ys)))
    (lit (either s.1 t.1) (count_at is_right zs)) (either (lit s.1 (count_at is_right xs)) (lit t.1 (count_at is_right ys)))
    (lit_both is_left s.0 t.0 xs ys zs m b.0 (λ x c l. a.there (x, c, inl l)) (λ x c l. a.back (x, c, inl l)))
    (lit_both is_right s.1 t.1 xs ys zs m b.1 (λ x c l. a.there (x, c, inr l)) (λ x c l. a.back (x, c, inr l)))

pub out_merged : (s t : Lamps) (n : ℕ) (xs ys zs : List Item) (i j : ℕ × ℕ) → Interleaved xs ys zs → AreBeside s t → AreApart gates n s t xs ys → IsTold s n xs i → IsTold t n ys j → IsTold (merged s t) n zs (both i j)
out_merged s t n xs ys zs i j m b a h k =
    let left : told (either s.0 t.0) (count_at is_left zs) ≡ told s.0 (count_at is_left xs) + told t.0 (count_at is_left ys) = told_both is_left s.0 t.0 xs ys zs m b.0 (λ x c l. a.there (x, c, inl l)) (λ x c l. a.back (x, c, inl l)) in
    let right : told (either s.1 t.1) (count_at is_right zs) ≡ told s.1 (count_at is_right xs) + told t.1 (count_at is_right ys) = told_both is_right s.1 t.1 xs ys zs m b.1 (λ x c l. a.there (x, c, inr l)) (λ x c l. a.back (x, c, inr l)) in
    (omega (arith, h.0, k.0, left), omega (arith, h.1, k.1, right))

told_nothing : (c : Option ℕ) → told c 0 ≡ 0
told_nothing None = refl
told_nothing (Some v) = refl

pub out_alone : (s t : Lamps) (n : ℕ) (xs : List Item) (o : ℕ × ℕ) → AreBeside s t → AreApart gates n s t xs [] → IsTold s n xs o → IsTold (merged s t) n xs o
out_alone s t n xs o b a h =
    let r : IsTold (merged s t) n xs (both o (0, 0)) = out_merged s t n xs [] xs o (0, 0) (none_behind xs) b a h (sym (told_nothing t.0), sym (told_nothing t.1)) in
    (omega (arith, r.0), omega (arith, r.1))

pub next_rested : (s : Lamps) (a b : ℕ) (xs : List Item) → next (next s a []) b xs ≡ next s b xs
next_rested s a b xs = pair_is (lit (lit s.0 0) (count_at is_left xs)) (lit s.0 (count_at is_left xs)) (lit (lit s.1 0) (count_at is_right xs)) (lit s.1 (count_at is_right xs)) (lit_rested s.0 (count_at is_left xs)) (lit_rested s.1 (count_at is_right xs))

pub out_rested : (s : Lamps) (a b : ℕ) (xs : List Item) (o : ℕ × ℕ) → IsTold s b xs o → IsTold (next s a []) b xs o
out_rested s a b xs o h = (h.0 ∙ sym (told_rested s.0 (count_at is_left xs)), h.1 ∙ sym (told_rested s.1 (count_at is_right xs)))

pub gates_rested : (s : Lamps) (a b : ℕ) (xs : List Item) (x : Item) → gates (next s a []) b xs x → gates s b xs x
gates_rested s a b xs x (inl h) = inl (lights_rested s.0 (is_left x) h)
gates_rested s a b xs x (inr h) = inr (lights_rested s.1 (is_right x) h)

found : (f : Item → Bool) (c : Option ℕ) (xs : List Item) → 0 < told c (count_at f xs) → (x : Item) × Contains xs x × Lights c (f x)
found f None xs l = absurd (omega (arith, l))
found f (Some v) [] l = absurd (omega (arith, l))
found f (Some v) (y ∷ ys) l = cond_both (f y) (suc (count_at f ys)) (count_at f ys) (λ k. 0 < k → (x : Item) × Contains (y ∷ ys) x × Lights (Some v) (f x))
    (λ e m. (y, contains_first y y ys refl, e))
    (λ e m. let r : (x : Item) × Contains ys x × Lights (Some v) (f x) = found f (Some v) ys m in (r.0, contains_later y r.0 ys r.1, r.2)) l

counted : (f : Item → Bool) (c : Option ℕ) (xs : List Item) (x : Item) → Contains xs x → Lights c (f x) → 0 < told c (count_at f xs)
counted f None xs x c l = absurd l
counted f (Some v) [] x c l = absurd (omega (arith, c.1))
counted f (Some v) (y ∷ ys) x c l = elim (contains_cons y x ys c) [
  | inl e ↦ rw (ap f e ∙ l) (zero-lt-suc (count_at f ys))
  | inr d ↦ cond_both (f y) (suc (count_at f ys)) (count_at f ys) (λ k. 0 < k) (λ t. zero-lt-suc (count_at f ys)) (λ t. counted f (Some v) ys x d l)
]

-- a lamp has one of the items where it reaches one
pub reaches_as : (s : Lamps) (n : ℕ) (own xs : List Item) (j k : ℕ) (B : Type 0) → j ≡ count_at is_left xs → k ≡ count_at is_right xs → (B ↔ ((0 < told s.0 j) ⊎ (0 < told s.1 k))) → B ↔ Reaches gates s n own xs
reaches_as s n own xs j k B e f h = (
  λ b. elim (h.0 b) [
    | inl l ↦ let r = found is_left s.0 xs (subst (λ i. 0 < told s.0 i) e l) in (r.0, r.1, inl r.2)
    | inr l ↦ let r = found is_right s.1 xs (subst (λ i. 0 < told s.1 i) f l) in (r.0, r.1, inr r.2)
  ],
  λ r. h.1 (elim r.2 [
    | inl l ↦ inl (subst (λ i. 0 < told s.0 i) (sym e) (counted is_left s.0 xs r.0 r.1 l))
    | inr l ↦ inr (subst (λ i. 0 < told s.1 i) (sym f) (counted is_right s.1 xs r.0 r.1 l))
  ]),
)
