use Rattle.std.proofs.Common.{◌≡◌, ◌∙◌, ap, sym, subst, refl, [], ◌∷◌, ◌++◌, ◌+◌, take, append-nil}
use Rattle.std.specs.List.{flat_map}
use Rattle.std.proofs.lemmas.List.{take_more}
use Rattle.std.proofs.lemmas.Grind.{flat_map-append}
use Rattle.admission_log.specs.declared.delivery.Delivery.{Delivery}
use Rattle.admission_log.specs.ReadMessages.{messages_kept}
use Rattle.admission_log.specs.Brought.{BringsMessages}
use Rattle.admission_log.proofs.Bringing.{messages_none, messages_more}
use Rattle.admission_log.proofs.delivery.judge_messages.Goals as goal

pub loop-block-init : goal.loop-block-init
loop-block-init c =
    let start : Delivery = record { next = c.args.next; admitted = c.new.result; outcomes = c.new-2.result } in
    (start, record { next_is = refl; admitted = c.new.ensures.items; outcomes = c.new-2.ensures.items }, messages_none c.args.settings.now c.args.last start start refl refl refl)

pub loop-block-preserved : goal.loop-block-preserved
loop-block-preserved c =
    let inv = c.loop-block.invariant in
    let settings = c.args.settings.now in
    let blocks = c.as_slice-blocks.result.now in
    let i = c.loop-block.block-index in
    let b = c.block-item.result in
    let new = c.add_block.new.self in
    let more : flat_map messages_kept (take i blocks ++ b ∷ []) ≡ flat_map messages_kept (take i blocks) ++ messages_kept b =
    flat_map-append messages_kept (take i blocks) (b ∷ []) ∙ ap (λ t. flat_map messages_kept (take i blocks) ++ t) (append-nil (messages_kept b)) in
    let grown : flat_map messages_kept (take i blocks) ++ messages_kept b ≡ flat_map messages_kept (take (i + 1) blocks) =
    sym more ∙ ap (flat_map messages_kept) (ap (λ x. take i blocks ++ x ∷ []) c.block-item.is ∙ sym (take_more blocks i b c.loop-block-test.true)) in (
      inv.0,
      inv.1,
      subst (λ ms. BringsMessages settings c.args.last ms inv.0 new) grown
          (messages_more settings c.args.last (flat_map messages_kept (take i blocks)) (messages_kept b) inv.0 c.loop-block.delivery new inv.2 c.in_ok-add_block.ensures),
    )
