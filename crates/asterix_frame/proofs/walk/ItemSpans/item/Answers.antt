use Rattle.std.proofs.Common.{◌∙◌, sym, ap, refl, ◌-◌, take, drop}
use Rattle.std.specs.Option.{option_map}
use Rattle.std.proofs.lemmas.List.Elements.{recursion_from_All}
use Rattle.asterix_frame.specs.Bodies.{IsSpan, span_of}
use Rattle.asterix_frame.proofs.Placed.{item_is_at, span_within}
use Rattle.asterix_frame.proofs.walk.ItemSpans.item.Goals as goal

pub returns-in_err-first : goal.returns-in_err-first
returns-in_err-first c =
    let found = c.args.self.now.frns.items in
    let none = item_is_at c.args.body.now c.args.frn found (recursion_from_All (IsSpan c.args.body.now) found c.requires) ∙ ap (option_map (λ s. take (s.1 - s.0) (drop s.0 c.args.body.now))) (ap (span_of c.args.frn) (sym c.deref.ensures.value) ∙ sym c.in_err-first.ensures) in
    rw (c.from_residual.ensures, none) refl

pub slice_bounds-result-count : goal.slice_bounds-result-count
slice_bounds-result-count c = (span_within c.args.body.now c.args.frn c.args.self.now.frns.items c.in_ok-first.first c.in_ok-first.end (recursion_from_All (IsSpan c.args.body.now) c.args.self.now.frns.items c.requires) (ap (span_of c.args.frn) (sym c.deref.ensures.value) ∙ sym c.in_ok-first.ensures)).0

pub slice_bounds-result-start : goal.slice_bounds-result-start
slice_bounds-result-start c = (span_within c.args.body.now c.args.frn c.args.self.now.frns.items c.in_ok-first.first c.in_ok-first.end (recursion_from_All (IsSpan c.args.body.now) c.args.self.now.frns.items c.requires) (ap (span_of c.args.frn) (sym c.deref.ensures.value) ∙ sym c.in_ok-first.ensures)).0

pub slice_bounds-result-end : goal.slice_bounds-result-end
slice_bounds-result-end c = (span_within c.args.body.now c.args.frn c.args.self.now.frns.items c.in_ok-first.first c.in_ok-first.end (recursion_from_All (IsSpan c.args.body.now) c.args.self.now.frns.items c.requires) (ap (span_of c.args.frn) (sym c.deref.ensures.value) ∙ sym c.in_ok-first.ensures)).1

pub returns : goal.returns
returns c =
    let found = c.args.self.now.frns.items in
    sym (item_is_at c.args.body.now c.args.frn found (recursion_from_All (IsSpan c.args.body.now) found c.requires) ∙ ap (option_map (λ s. take (s.1 - s.0) (drop s.0 c.args.body.now))) (ap (span_of c.args.frn) (sym c.deref.ensures.value) ∙ sym c.in_ok-first.ensures))
