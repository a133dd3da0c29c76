use Rattle.std.proofs.Common.{ℕ, ◌≡◌, ◌<◌, List, length, sym, subst, ap, ◌∙◌, arith}
use Rattle.std.specs.List.{All}
use Rattle.std.specs.List.Sorted.{IsNonDecreasingBy}
use Rattle.std.proofs.lemmas.List.Sorted.{All-permutation}
use Rattle.cluster_split.specs.declared.splitting.Component.{Component}
use Rattle.cluster_split.specs.Leasts.{AreLeasts}
use Rattle.cluster_split.specs.Grouping.{AreLabelled, AreGrouped, AreIndices, components_of}
use Rattle.cluster_split.proofs.Classes.{all_steps, settled_leasts, few_places}
use Rattle.cluster_split.proofs.splitting.components.Goals as goal

-- what a call says of what it was lent, said of what that is
leasts_as : {n : ℕ} {lent edges : List (ℕ × ℕ)} {least : List ℕ} → lent ≡ edges → AreLeasts n lent least → AreLeasts n edges least
leasts_as {n} {lent} {edges} {least} e h = subst (λ xs. AreLeasts n xs least) e h

grouped_as : {lent least places : List ℕ} {parts : List Component} → lent ≡ least → AreGrouped lent (length lent) parts places → AreGrouped least (length least) parts places
grouped_as {lent} {least} {places} {parts} e h = subst (λ xs. AreGrouped xs (length xs) parts places) e h

pub least_plots-requires-clause-inside : goal.least_plots-requires-clause-inside
least_plots-requires-clause-inside c = subst (All (λ e. e.0 < c.args.plots)) (sym c.deref.ensures.value) (All-permutation (λ e. e.0 < c.args.plots) c.args.edges.now _ c.in_ok-by_track.ensures.same c.requires)

pub least_plots-requires-clause-sorted : goal.least_plots-requires-clause-sorted
least_plots-requires-clause-sorted c = subst (IsNonDecreasingBy (λ e. e.1)) (sym c.deref.ensures.value) c.in_ok-by_track.ensures.sorted

pub components_of_plots-requires-clause-few : goal.components_of_plots-requires-clause-few
components_of_plots-requires-clause-few c =
    let h = leasts_as c.deref.ensures.value c.in_ok-least.ensures in
    omega (arith, h.long, ap length c.deref-2.ensures.value, c.ranges.plots.fits)

pub components_of_plots-requires-clause-settled : goal.components_of_plots-requires-clause-settled
components_of_plots-requires-clause-settled c =
    subst AreLabelled (sym c.deref-2.ensures.value) (settled_leasts c.args.plots c.in_ok-by_track.by_track.items _ (leasts_as c.deref.ensures.value c.in_ok-least.ensures))

pub add_tracks-requires-clause-inside : goal.add_tracks-requires-clause-inside
add_tracks-requires-clause-inside c =
    let h = leasts_as c.deref.ensures.value c.in_ok-least.ensures in
    let g = grouped_as c.deref-2.ensures.value c.in_ok-parts.ensures in
    let long : c.args.plots ≡ length c.deref-3.result.now = sym h.long ∙ sym g.long ∙ ap length (sym c.deref-3.ensures.value) in
    subst (All (λ e. e.0 < length c.deref-3.result.now)) (sym c.deref-4.ensures.value)
    (subst (λ n. All (λ e. e.0 < n) c.in_ok-by_track.by_track.items) long (All-permutation (λ e. e.0 < c.args.plots) c.args.edges.now _ c.in_ok-by_track.ensures.same c.requires))

pub add_tracks-requires-clause-places : goal.add_tracks-requires-clause-places
add_tracks-requires-clause-places c =
    let g = grouped_as c.deref-2.ensures.value c.in_ok-parts.ensures in
    let all = few_places c.in_ok-least.least.items c.in_ok-parts.places.items _ c.in_ok-parts.parts.items g in
    subst (All (λ p. p < c.in_ok-parts.parts.len)) (sym c.deref-3.ensures.value) (subst (λ n. All (λ p. p < n) c.in_ok-parts.places.items) (sym c.in_ok-parts.parts.ok.0) all)

-- what `add_tracks` says of what it was lent, said of what that is
tracks_as : {lent places : List ℕ} {lent' edges : List (ℕ × ℕ)} {before parts : List Component} → lent ≡ places → lent' ≡ edges
    → ((l : List ℕ) → AreIndices l lent → before ≡ components_of l lent' (length lent) 0 → parts ≡ components_of l lent' (length lent) (length lent'))
    → (l : List ℕ) → AreIndices l places → before ≡ components_of l edges (length places) 0 → parts ≡ components_of l edges (length places) (length edges)
tracks_as {lent} {places} {lent'} {edges} {before} {parts} e f h =
    subst (λ xs. (l : List ℕ) → AreIndices l xs → before ≡ components_of l edges (length xs) 0 → parts ≡ components_of l edges (length xs) (length edges)) e
    (subst (λ es. (l : List ℕ) → AreIndices l lent → before ≡ components_of l es (length lent) 0 → parts ≡ components_of l es (length lent) (length es)) f h)

pub returns : goal.returns
returns c =
    all_steps c.args.plots c.args.edges.now c.in_ok-by_track.by_track.items c.in_ok-least.least.items c.in_ok-parts.places.items c.in_ok-parts.parts.items _
    c.requires c.in_ok-by_track.ensures.same c.in_ok-by_track.ensures.sorted
    (leasts_as c.deref.ensures.value c.in_ok-least.ensures)
    (grouped_as c.deref-2.ensures.value c.in_ok-parts.ensures)
    (tracks_as c.deref-3.ensures.value c.deref-4.ensures.value c.in_ok-add_tracks.ensures)
