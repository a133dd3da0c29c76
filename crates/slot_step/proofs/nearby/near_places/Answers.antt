use Rattle.std.proofs.Common.{rules, ◌≤◌, ap, subst, refl, ℕ, pos}
use Rattle.std.specs.Prelude.{unsigned_abs, ◌≤ℤ◌}
use Rattle.fixed_imm.specs.Aims.{AimState}
use Rattle.fixed_imm.specs.Bounds.{time_step}
use Rattle.gating.specs.Coarse.{IsCoarseGate}
use Rattle.slot_step.specs.PlotPlaces.{IsUnmarked, AreBetween}
use Rattle.slot_step.proofs.Covering.{unmarked, inside_near, covers, none_lies}
use Rattle.slot_step.proofs.nearby.near_places.Goals as goal

pub returns-then-not-is_marked : goal.returns-then-not-is_marked
returns-then-not-is_marked c =
    unmarked c.args.aim.now c.args.plots.now c.args.marks.now c.requires.marks (subst (IsUnmarked c.args.marks.now) (ap (λ (a : AimState). a.address) c.aim.view_is) (c.if-not-is_marked.ensures refl))

pub some_lies_in-requires : goal.some_lies_in-requires
some_lies_in-requires c =
    let within = c.args.times in
    let far : (n : ℕ) → within.0 ≤ n → n ≤ within.1 → pos (unsigned_abs (time_step c.args.aim.now.time n)) ≤ℤ c.span.result =
    subst (λ (m : ℕ). (n : ℕ) → within.0 ≤ n → n ≤ within.1 → pos (unsigned_abs (time_step m n)) ≤ℤ c.span.result) (ap (λ (a : AimState). a.time) c.aim.view_is) c.span.ensures.within in
    let coarse : IsCoarseGate c.args.aim.now c.span.result c.of-coarse.result = search rules in
    let between : AreBetween c.of-coarse.result.west c.of-coarse.result.east c.args.places.now c.places_between-near.result.now = search rules in
    inside_near c.args.aim.now c.args.plots.now c.args.places.now c.places_between-near.result.now within c.span.result c.of-coarse.result c.requires.places c.requires.times c.requires.near far coarse between

pub returns-then-not-some_lies_in : goal.returns-then-not-some_lies_in
returns-then-not-some_lies_in c =
    let within = c.args.times in
    let far : (n : ℕ) → within.0 ≤ n → n ≤ within.1 → pos (unsigned_abs (time_step c.args.aim.now.time n)) ≤ℤ c.span.result =
    subst (λ (m : ℕ). (n : ℕ) → within.0 ≤ n → n ≤ within.1 → pos (unsigned_abs (time_step m n)) ≤ℤ c.span.result) (ap (λ (a : AimState). a.time) c.aim.view_is) c.span.ensures.within in
    let coarse : IsCoarseGate c.args.aim.now c.span.result c.of-coarse.result = search rules in
    let between : AreBetween c.of-coarse.result.west c.of-coarse.result.east c.args.places.now c.places_between-near.result.now = search rules in
    none_lies c.args.aim.now c.args.plots.now c.args.places.now c.places_between-near.result.now within c.span.result c.of-coarse.result c.requires.places c.requires.times c.requires.near far coarse between (c.if-not-some_lies_in.ensures refl)

pub returns : goal.returns
returns c =
    let within = c.args.times in
    let far : (n : ℕ) → within.0 ≤ n → n ≤ within.1 → pos (unsigned_abs (time_step c.args.aim.now.time n)) ≤ℤ c.span.result =
    subst (λ (m : ℕ). (n : ℕ) → within.0 ≤ n → n ≤ within.1 → pos (unsigned_abs (time_step m n)) ≤ℤ c.span.result) (ap (λ (a : AimState). a.time) c.aim.view_is) c.span.ensures.within in
    let coarse : IsCoarseGate c.args.aim.now c.span.result c.of-coarse.result = search rules in
    let between : AreBetween c.of-coarse.result.west c.of-coarse.result.east c.args.places.now c.places_between-near.result.now = search rules in
    covers c.args.aim.now c.args.plots.now c.args.places.now c.places_between-near.result.now within c.span.result c.of-coarse.result c.requires.places c.requires.times c.requires.near far coarse between
