-- What joins keep of the parts of a whole, and what they cost.
use Rattle.std.proofs.Common.{◌≡◌, ap, sym, refl, subst, ℕ, ◌+◌, ◌*◌, ◌<◌, ◌≤◌, List, [], ◌∷◌, ◌++◌, length, arith, inl, inr}
use Rattle.std.specs.Cmp.{IsTotalOrder}
use Rattle.std.specs.Prelude.{◌⊎◌, Contains, Option, Some, None, MatchOption}
use Rattle.std.specs.Option.{option_to_list}
use Rattle.std.specs.declared.cmp.Ordering.{Ordering}
use Rattle.std.proofs.Math.Nat.{mul-le-mul_left}
use Rattle.late_window.specs.Folding.{Rises, slots}
use Rattle.span_clusters.specs.Parts.{Part, IsSplitting}
use Rattle.span_clusters.specs.Jobs.{NumbersDiffer, AreParts, filled_slots, part_numbers}
use Rattle.span_clusters.proofs.FewSlots.{few_of_each, few_together}
use Rattle.span_clusters.proofs.Joins.{joined_splitting}
use Rattle.span_clusters.proofs.Separated.{separated}
use Rattle.span_clusters.proofs.Separating.{Separating, SeparatingLaws}
use Rattle.cluster_pool.specs.Joins.{LackNumber, HaveNumbers, AreTaken, AreNumbers, AreOne, ComesFrom}
use Rattle.cluster_pool.proofs.TakenOut.{without_behind, without_length, joined_differ, joined_among, no_number, two_taken}

module _ {S I K O : Type 0} (F : Separating S I K O) (L : SeparatingLaws F)
    (merged_rest : (s t r : S) → F.is_beside s t → F.is_beside s r → F.is_beside t r → F.merged (F.merged s t) r ≡ F.merged s (F.merged t r)) where
  abbrev Splits : S → List I → List (Part S I) → Type 0
  Splits s zs parts = IsSplitting F.slot F.is_before F.is_beside F.merged s zs parts

  abbrev Comes : List (Part S I) → List (Part S I) → ℕ → ℕ → Type 0
  Comes old new before now = ComesFrom F.slot F.cmp F.key F.is_before F.is_beside F.merged old new before now

  pub none_joined : (parts : List (Part S I)) (n : ℕ) → Comes parts parts n n
  none_joined parts n = record { numbers = λ d. d; among = λ k c. c; splitting = λ s zs up i. i; rises = omega arith; paid = λ s zs up i. omega arith }

  taken_behind : (p q : Part S I) (jobs parts rest : List (Part S I)) → AreTaken p q parts rest → AreTaken p q (jobs ++ parts) (jobs ++ rest)
  taken_behind p q jobs parts rest t = record { others = jobs ++ t.others; one = without_behind p jobs parts t.others t.one; other = without_behind q jobs t.others rest t.other }

  -- one more job for each slot of the whole at most, and one part less
  dearer : (most before now then rose : ℕ) (more fewer old : ℕ) → now + most * more ≤ before + most * old → fewer + 1 ≡ more → then ≡ now + rose → rose ≤ most → then + most * fewer ≤ before + most * old
  dearer most before now then rose more fewer old paid len e few =
      let m : most * (fewer + 1) ≡ most * more = ap (λ n. most * n) len in
      omega (arith, paid, m, e, few)

  pub one_joined : IsTotalOrder F.cmp → (old jobs parts rest : List (Part S I)) (p q made : Part S I) (before now then : ℕ) → Comes old (jobs ++ parts) before now
      → AreTaken p q parts rest → AreOne F.cmp F.key F.merged p q made → then ≡ now + length (slots F.slot made.items) → Comes old (made ∷ jobs ++ rest) before then
  one_joined total old jobs parts rest p q made before now then c t o e =
      let u : AreTaken p q (jobs ++ parts) (jobs ++ rest) = taken_behind p q jobs parts rest t in
      let split : (s : S) (zs : List I) → Rises F.cmp F.key zs → Splits s zs old → Splits s zs (made ∷ jobs ++ rest) =
      λ s zs up i. subst (λ m. Splits s zs (m ∷ jobs ++ rest)) (sym o.is)
      (joined_splitting F L merged_rest total s zs p q (jobs ++ parts) u.others (jobs ++ rest) made.items up (c.splitting s zs up i) u.one u.other o.both o.rising).0 in
      record {
        numbers = λ d. subst (λ m. NumbersDiffer (m ∷ jobs ++ rest)) (sym o.is) (joined_differ F.merged p q (jobs ++ parts) (jobs ++ rest) made.items u (c.numbers d));
        among = λ k h. c.among k (joined_among F.merged p q (jobs ++ parts) (jobs ++ rest) made.items u k (subst (λ m. Contains (part_numbers (m ∷ jobs ++ rest)) k) o.is h));
        splitting = split;
        rises = let r = c.rises in omega (arith, r, e);
        paid = λ s zs up i.
            let few : length (slots F.slot made.items) ≤ length (slots F.slot zs) = (few_of_each F.slot (made ∷ jobs ++ rest) zs (split s zs up i).items).0 in
            let one = without_length p (jobs ++ parts) u.others u.one in
            let two = without_length q u.others (jobs ++ rest) u.other in
            dearer (length (slots F.slot zs)) before now then (length (slots F.slot made.items)) (length (jobs ++ parts)) (length (made ∷ jobs ++ rest)) (length old) (c.paid s zs up i) (omega (arith, one, two)) e few;
      }

  some_part : (s : S) (zs : List I) (parts : List (Part S I)) → Splits s zs parts → 1 ≤ length parts
  some_part s zs [] i = absurd i.state
  some_part s zs (p ∷ parts) i = omega arith

  -- whatever comes of it, one part at least is left
  pub bounded : (old new : List (Part S I)) (before now : ℕ) → Comes old new before now → (s : S) (zs : List I) → Rises F.cmp F.key zs → Splits s zs old
      → now + length (slots F.slot zs) ≤ before + length (slots F.slot zs) * length old
  bounded old new before now c s zs up i =
      let most = length (slots F.slot zs) in
      let some : 1 ≤ length new = some_part s zs new (c.splitting s zs up i) in
      let m : most * 1 ≤ most * length new = mul-le-mul_left most some in
      omega (arith, m, c.paid s zs up i)

-- what is kept from one pair to the next: the parts that were there, the jobs that were made of some and those that are left
pub record AreJoined {S I K : Type 0} (slot : I → ℕ) (cmp : I → I → Ordering) (key : I → K) (is_before : S → ℕ → Type 0) (is_beside : S → S → Type 0) (merged : S → S → S) (old : List (Part S I)) (at : ℕ) (jobs parts : List (Part S I)) (before now : ℕ) : Type 0 where
  pub comes : ComesFrom slot cmp key is_before is_beside merged old (jobs ++ parts) before now
  pub left : AreParts slot key is_before is_beside parts
  pub count : length jobs + length jobs + length parts ≡ length old
  pub begun : ((at ≡ 0) × (parts ≡ old)) ⊎ (0 < length jobs)

module _ {S I K O : Type 0} (F : Separating S I K O) (L : SeparatingLaws F)
    (merged_rest : (s t r : S) → F.is_beside s t → F.is_beside s r → F.is_beside t r → F.merged (F.merged s t) r ≡ F.merged s (F.merged t r)) where
  abbrev pub Joins : List (Part S I) → ℕ → List (Part S I) → List (Part S I) → ℕ → ℕ → Type 0
  Joins old at jobs parts before now = AreJoined F.slot F.cmp F.key F.is_before F.is_beside F.merged old at jobs parts before now

  pub joins_first : (old : List (Part S I)) (n : ℕ) → AreParts F.slot F.key F.is_before F.is_beside old → Joins old 0 [] old n n
  joins_first old n a = record { comes = none_joined F L merged_rest old n; left = a; count = omega arith; begun = inl (refl, refl) }

  -- the first pair is there
  pub joins_not : (old jobs parts : List (Part S I)) (at a b before now : ℕ) → Joins old at jobs parts before now → AreNumbers a b old → LackNumber a parts ⊎ LackNumber b parts → Joins old (at + 1) jobs parts before now
  joins_not old jobs parts at a b before now j n lacks = record {
    comes = j.comes;
    left = j.left;
    count = j.count;
    begun = elim j.begun [
      | inl h ↦ absurd (elim lacks [
        | inl k ↦ no_number a old (subst (LackNumber a) h.1 k) n.one
        | inr k ↦ no_number b old (subst (LackNumber b) h.1 k) n.other
      ])
      | inr l ↦ inr l
    ];
  }

  pub joins_one : IsTotalOrder F.cmp → (old jobs parts rest : List (Part S I)) (p q made : Part S I) (at before now then : ℕ) → Joins old at jobs parts before now
      → AreTaken p q parts rest → AreOne F.cmp F.key F.merged p q made → then ≡ now + length (slots F.slot made.items) → Joins old (at + 1) (made ∷ jobs) rest before then
  joins_one total old jobs parts rest p q made at before now then j t o e =
      let one = without_length p parts t.others t.one in
      let two = without_length q t.others rest t.other in
      let count = j.count in
      record {
        comes = one_joined F L merged_rest total old jobs parts rest p q made before now then j.comes t o e;
        left = (two_taken F.slot F.key F.is_before F.is_beside L.beside_back p q parts rest t j.left).left;
        count = omega (arith, one, two, count);
        begun = inr (omega arith);
      }

  pub joins_bound : (old jobs parts : List (Part S I)) (at before now : ℕ) → Joins old at jobs parts before now → (s : S) (zs : List I) → Rises F.cmp F.key zs → IsSplitting F.slot F.is_before F.is_beside F.merged s zs old
      → now + length (slots F.slot zs) ≤ before + length (slots F.slot zs) * length old
  joins_bound old jobs parts at before now j s zs up i = bounded F L merged_rest old (jobs ++ parts) before now j.comes s zs up i

  pub joins_fewer : (old jobs parts : List (Part S I)) (at before now : ℕ) → Joins old at jobs parts before now → 0 < at → length jobs + length parts < length old
  joins_fewer old jobs parts at before now j l = elim j.begun [
    | inl h ↦ absurd (let z = h.0 in omega (arith, l, z))
    | inr m ↦ (let count = j.count in omega (arith, m, count))
  ]

  -- what joining a pair gives, and what is kept then
  abbrev pub PairJoined : (parts rest : List (Part S I)) → ℕ → ℕ → ℕ → ℕ → Option (Part S I) → Type 0
  PairJoined parts rest a b now then job = MatchOption job ((rest ≡ parts) × (then ≡ now) × (LackNumber a parts ⊎ LackNumber b parts))
      (λ made. (p q : Part S I) × AreTaken p q parts rest × AreOne F.cmp F.key F.merged p q made × (then ≡ now + length (slots F.slot made.items)) × HaveNumbers a b p q)

  pub joins_step : IsTotalOrder F.cmp → (old jobs parts rest : List (Part S I)) (at a b before now then : ℕ) (job : Option (Part S I)) → Joins old at jobs parts before now → AreNumbers a b old → PairJoined parts rest a b now then job
      → Joins old (at + 1) (option_to_list job ++ jobs) rest before then
  joins_step total old jobs parts rest at a b before now then None j n h =
      subst (λ (l : List (Part S I)). Joins old (at + 1) jobs l before then) (sym h.0) (subst (Joins old (at + 1) jobs parts before) (sym h.1) (joins_not old jobs parts at a b before now j n h.2))
  joins_step total old jobs parts rest at a b before now then (Some made) j n h = joins_one total old jobs parts rest h.0 h.1 made at before now then j h.2 h.3 h.4

-- what is kept from one round of joins to the next, of the parts that were run: they split the whole, and the counter rose by no more than twice the wish times the slots of the whole but for one time for each part
pub record AreKept {S I K : Type 0} (wish : ℕ) (slot : I → ℕ) (cmp : I → I → Ordering) (key : I → K) (is_before : S → ℕ → Type 0) (is_beside : S → S → Type 0) (merged : S → S → S) (s : S) (zs : List I) (parts : List (Part S I)) (before now : ℕ) : Type 0 where
  pub splitting : IsSplitting slot is_before is_beside merged s zs parts
  pub numbers : NumbersDiffer parts
  pub rises : before ≤ now
  pub paid : now + length (slots slot zs) * length parts ≤ before + 2 * wish * length (slots slot zs)

module _ {S I K O : Type 0} (F : Separating S I K O) (wish : ℕ) (s : S) (zs : List I) where
  abbrev pub Kept : List (Part S I) → ℕ → ℕ → Type 0
  Kept parts before now = AreKept wish F.slot F.cmp F.key F.is_before F.is_beside F.merged s zs parts before now

  pub kept_first : (parts : List (Part S I)) (before now : ℕ) → IsSplitting F.slot F.is_before F.is_beside F.merged s zs parts → NumbersDiffer parts → length parts ≤ wish → now ≡ before + filled_slots F.slot parts → Kept parts before now
  kept_first parts before now i d few e =
      let most = length (slots F.slot zs) in
      let filled : filled_slots F.slot parts ≤ length parts * most = few_together F.slot most parts (few_of_each F.slot parts zs i.items) in
      let m : most * length parts ≤ most * wish = mul-le-mul_left most few in
      record { splitting = i; numbers = d; rises = omega (arith, e); paid = omega (arith, m, e, filled) }

  pub kept_parts : (parts : List (Part S I)) (before now : ℕ) → Rises F.cmp F.key zs → Kept parts before now → AreParts F.slot F.key F.is_before F.is_beside parts
  kept_parts parts before now up k = separated F.slot F.key F.is_before F.cmp F.is_beside F.merged s zs parts up k.splitting k.numbers

  least_part : (parts : List (Part S I)) → IsSplitting F.slot F.is_before F.is_beside F.merged s zs parts → 1 ≤ length parts
  least_part [] i = absurd i.state
  least_part (p ∷ parts) i = omega arith

  pub kept_bound : (parts : List (Part S I)) (before now : ℕ) → Kept parts before now → now + length (slots F.slot zs) ≤ before + 2 * wish * length (slots F.slot zs)
  kept_bound parts before now k =
      let most = length (slots F.slot zs) in
      let m : most * 1 ≤ most * length parts = mul-le-mul_left most (least_part parts k.splitting) in
      let paid = k.paid in
      omega (arith, m, paid)

  pub kept_joined : (parts new : List (Part S I)) (before now then : ℕ) → Rises F.cmp F.key zs → Kept parts before now → ComesFrom F.slot F.cmp F.key F.is_before F.is_beside F.merged parts new now then → Kept new before then
  kept_joined parts new before now then up k c =
      let one = k.rises in
      let two = c.rises in
      let paid = k.paid in
      let more = c.paid s zs up k.splitting in
      record { splitting = c.splitting s zs up k.splitting; numbers = c.numbers k.numbers; rises = omega (arith, one, two); paid = omega (arith, paid, more) }

  pub kept_failed : (parts : List (Part S I)) (before now then : ℕ) → Kept parts before now → then + length (slots F.slot zs) ≤ now + length (slots F.slot zs) * length parts → then + length (slots F.slot zs) ≤ before + 2 * wish * length (slots F.slot zs)
  kept_failed parts before now then k h = let paid = k.paid in omega (arith, paid, h)
