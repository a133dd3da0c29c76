use Rattle.std.proofs.Common.{◌≡◌, ◌∙◌, ap, sym, ◌++◌, ◌-◌, [], ◌∷◌, length, drop, slice_set}
use Rattle.asterix_frame.specs.Elements.{octets_of}
use Rattle.asterix_frame.specs.Encoding.{last_frn, elements_by_size}
use Rattle.asterix_frame.proofs.Drafts.{IsBegun, begun_first, begun_more, none_of, some_of, draft_put, items_put, last_put, size_put}
use Rattle.asterix_frame.proofs.record_writer.RecordWriter.put.Goals as goal
use Rattle.asterix_frame.proofs.record_writer.RecordWriter.put.Goals.{then-is_empty+in_ok-extend_from_slice, else-is_empty}

begun : (c : goal.After-self-1) → IsBegun c.if-is_empty.self-inside.octets.items c.if-is_empty.self-inside.sizes c.if-is_empty.self-inside.last c.args.self.now
begun c =
    elim c.if-is_empty.branch [
      | then-is_empty+in_ok-extend_from_slice w ↦
          let none = none_of c.self.inside.octets.items _ (sym c.self.inside.octets.ok.0) w.if-is_empty.ensures in
          let grown : w.extend_from_slice.new.self.items ≡ c.self.inside.octets.items ++ 0 ∷ 0 ∷ 0 ∷ 0 ∷ [] = w.in_ok-extend_from_slice.ensures.items in
          let octets : w.extend_from_slice.new.self.items ≡ 0 ∷ 0 ∷ 0 ∷ 0 ∷ [] = grown ∙ ap (λ t. t ++ 0 ∷ 0 ∷ 0 ∷ 0 ∷ []) none in
          rw w.self-inside-is (rw octets (begun_first c.self.inside.octets.items c.self.inside.sizes c.self.inside.last c.args.self.now c.self.invariant c.self.view_is none))
      | else-is_empty w ↦
          rw w.self-inside-is (begun_more c.self.inside.octets.items c.self.inside.sizes c.self.inside.last c.args.self.now c.self.invariant c.self.view_is (some_of c.self.inside.octets.items _ (sym c.self.inside.octets.ok.0) w.if-is_empty.ensures))
    ]

grown : (c : goal.After-self-1) → c.extend_from_slice-2.new.self.items ≡ c.if-is_empty.self-inside.octets.items ++ c.args.octets.now
grown c = c.in_ok-extend_from_slice-2.ensures.items

pub invariant_of-self-2 : goal.invariant_of-self-2
invariant_of-self-2 c =
    rw (grown c)
    (draft_put c.if-is_empty.self-inside.octets.items c.if-is_empty.self-inside.sizes c.if-is_empty.self-inside.last c.args.frn c.args.self.now c.args.octets.now (begun c) c.requires.rising c.requires.in_table c.requires.some c.requires.limited)

pub returns-clause-added : goal.returns-clause-added
returns-clause-added c =
    ap (λ t. elements_by_size 0 (slice_set c.if-is_empty.self-inside.sizes (c.args.frn - 1) (length c.args.octets.now)) (drop 4 t)) (grown c)
    ∙ items_put c.if-is_empty.self-inside.octets.items c.if-is_empty.self-inside.sizes c.if-is_empty.self-inside.last c.args.frn c.args.self.now c.args.octets.now (begun c) c.requires.rising c.requires.in_table c.requires.some

pub returns-clause-last : goal.returns-clause-last
returns-clause-last c =
    ap last_frn (returns-clause-added c)
    ∙ last_put c.if-is_empty.self-inside.octets.items c.if-is_empty.self-inside.sizes c.if-is_empty.self-inside.last c.args.frn c.args.self.now c.args.octets.now (begun c) c.requires.rising c.requires.in_table c.requires.some

pub returns-clause-size : goal.returns-clause-size
returns-clause-size c =
    ap (λ t. length (octets_of t)) (returns-clause-added c)
    ∙ size_put c.if-is_empty.self-inside.octets.items c.if-is_empty.self-inside.sizes c.if-is_empty.self-inside.last c.args.frn c.args.self.now c.args.octets.now (begun c) c.requires.rising c.requires.in_table c.requires.some
