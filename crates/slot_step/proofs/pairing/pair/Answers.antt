use Rattle.std.proofs.Common.{◌≡◌, ◌∙◌, ◌<◌, ◌+◌, ◌++◌, ap, sym, ℕ, List, length, take, drop, Option, arith, subst}
use Rattle.std.specs.Prelude.{All}
use Rattle.std.proofs.lemmas.List.Elements.{All-map}
use Rattle.assignment_dual.specs.Problems.{Edge, Problem}
use Rattle.cluster_split.specs.declared.splitting.Component.{Component}
use Rattle.cluster_split.specs.Components.{AreComponents}
use Rattle.slot_step.specs.Certificates.{IsAt}
use Rattle.slot_step.specs.Components.{edge_pairs}
use Rattle.slot_step.specs.ToldComponents.{IsPairedComponent}
use Rattle.slot_step.specs.declared.certs.KeyedCert.{KeyedCert}
use Rattle.slot_step.proofs.Components.{get_at}
use Rattle.slot_step.proofs.Paired.{ArePaired, none_paired, paired_more, paired_least, paired_told, written_back}
use Rattle.slot_step.proofs.pairing.pair.Goals as goal

pub components-requires : goal.components-requires
components-requires c =
    let pairs : c.deref.result.now ≡ edge_pairs c.args.whole.now.edges = c.deref.ensures.value ∙ c.in_ok-pairs.ensures ∙ ap edge_pairs (c.as_slice.ensures ∙ ap (λ (p : Problem). p.edges) c.whole.view_is) in
    subst (All (λ (q : ℕ × ℕ). q.0 < length c.args.plots.now)) (sym pairs)
    (All-map (λ (q : ℕ × ℕ). q.0 < length c.args.plots.now) (λ (e : Edge). (e.0, e.1)) c.args.whole.now.edges (subst (λ n. All (λ (e : Edge). e.0 < n) c.args.whole.now.edges) c.requires.problem.plot_count c.requires.problem.problem.plots))

pub loop-component-init : goal.loop-component-init
loop-component-init c = none_paired c.args.tracks.now c.args.plots.now c.args.whole.now c.requires.problem c.requires.few_tracks c.deref-component-items.result.now c.args.certs.now.items c.in_ok-pairing.pairing.items (omega (arith, c.in_ok-pairing.ensures.len))

-- the components of the batch's gates
parts_are : (plots : ℕ) (edges : List Edge) (whole inside : Problem) (first second : List (ℕ × ℕ)) (parts items : List Component) → AreComponents plots first parts → first ≡ second → second ≡ edge_pairs edges → edges ≡ inside.edges → inside ≡ whole → items ≡ parts
    → AreComponents plots (edge_pairs whole.edges) items
parts_are plots edges whole inside first second parts items h a b c d e =
    subst (λ (y : List (ℕ × ℕ) × List Component). AreComponents plots y.0 y.1) (λ i. ((a ∙ b ∙ ap edge_pairs (c ∙ ap (λ (p : Problem). p.edges) d)) i, sym e i)) h

pub loop-component-preserved : goal.loop-component-preserved
loop-component-preserved c =
    let ts = c.args.tracks.now in
    let ps = c.args.plots.now in
    let parts : List Component = c.deref-component-items.result.now in
    let n = c.loop-component.component-index in
    let part : Component = c.component-item.result in
    let comps : AreComponents (length ps) (edge_pairs c.args.whole.now.edges) parts = parts_are (length ps) _ c.args.whole.now _ c.deref.result.now _ _ parts c.in_ok-parts.ensures c.deref.ensures.value c.in_ok-pairs.ensures c.as_slice.ensures c.whole.view_is c.deref-component-items.ensures.value in
    let at : IsAt parts n part = subst (IsAt parts n) (sym c.component-item.is) (get_at part parts n c.loop-component-test.true) in
    let keyed : KeyedCert = c.in_ok-pair_component.field-0 in
    let old : c.deref_mut.result.now ≡ c.loop-component.pairing.items = c.deref_mut.ensures.value in
    let done : IsPairedComponent ts ps c.args.whole.now part keyed c.deref_mut.result.now c.pair_component.new.pairing = c.in_ok-pair_component.ensures in
    let back : take c.loop-component.pairing.len (c.pair_component.new.pairing ++ drop (length c.pair_component.new.pairing) c.loop-component.pairing.items) ≡ c.pair_component.new.pairing =
    written_back c.pair_component.new.pairing c.loop-component.pairing.items c.loop-component.pairing.len (omega (arith, done.count, ap length old)) (omega (arith, c.deref_mut.ensures.len, ap length old)) in
    subst (λ (xs : List (Option ℕ)). ArePaired ts ps c.args.whole.now parts c.args.certs.now.items (n + 1) xs c.push.new.self.items) (sym back)
    (subst (ArePaired ts ps c.args.whole.now parts c.args.certs.now.items (n + 1) c.pair_component.new.pairing) (sym c.in_ok-push.ensures.items)
    (paired_more ts ps c.args.whole.now c.requires.problem c.requires.few_tracks parts c.args.certs.now.items n c.loop-component.pairing.items c.loop-component.certs.items c.loop-component.invariant comps part at keyed c.pair_component.new.pairing
    (subst (λ (xs : List (Option ℕ)). IsPairedComponent ts ps c.args.whole.now part keyed xs c.pair_component.new.pairing) old done)))

pub returns-clause-pairing : goal.returns-clause-pairing
returns-clause-pairing c =
    let comps : AreComponents (length c.args.plots.now) (edge_pairs c.args.whole.now.edges) c.deref-component-items.result.now = parts_are (length c.args.plots.now) _ c.args.whole.now _ c.deref.result.now _ _ c.deref-component-items.result.now c.in_ok-parts.ensures c.deref.ensures.value c.in_ok-pairs.ensures c.as_slice.ensures c.whole.view_is c.deref-component-items.ensures.value in
    λ life. paired_least c.args.tracks.now c.args.plots.now c.args.whole.now c.requires.problem c.requires.few_tracks c.deref-component-items.result.now c.args.certs.now.items c.loop-component.component-index c.loop-component.pairing.items c.loop-component.certs.items c.loop-component.invariant comps c.loop-component-test.false life

pub returns-clause-certs : goal.returns-clause-certs
returns-clause-certs c =
    let comps : AreComponents (length c.args.plots.now) (edge_pairs c.args.whole.now.edges) c.deref-component-items.result.now = parts_are (length c.args.plots.now) _ c.args.whole.now _ c.deref.result.now _ _ c.deref-component-items.result.now c.in_ok-parts.ensures c.deref.ensures.value c.in_ok-pairs.ensures c.as_slice.ensures c.whole.view_is c.deref-component-items.ensures.value in
    λ life. paired_told c.args.tracks.now c.args.plots.now c.args.whole.now c.requires.problem c.requires.few_tracks c.deref-component-items.result.now c.args.certs.now.items c.loop-component.component-index c.loop-component.pairing.items c.loop-component.certs.items c.loop-component.invariant comps c.loop-component-test.false life c.requires.tracks c.requires.plots
