use Rattle.std.proofs.Common.{rules, arith, ◌≡◌, ◌∙◌, ap, take, drop, length, ◌+◌, ◌-◌, []}
use Rattle.std.proofs.lemmas.List.{drop_all, length-drop}
use Rattle.io_traits.proofs.Copying.{copied_prefix}
use Rattle.io_traits.proofs.mem_host.store.Store.read.Goals as goal

pub returns-clause-taken : goal.returns-clause-taken
returns-clause-taken c =
    let n = c.min-count.result in
    let at = c.args.self.now.taken in
    let left = c.args.self.now.left.items in
    record {
      within = search rules;
      prefix = copied_prefix left c.copy_from_slice.new.self (drop n c.args.piece.now) c.args.piece.now at n
          (c.copy_from_slice.ensures.after ∙ ap (λ xs. take (at + n - at) (drop at xs)) c.deref.ensures.value)
          c.copy_from_slice.ensures.len
          (omega arith);
      end = λ none. drop_all (at + n) left (omega arith);
      only_end = λ empty.
          let none : drop at left ≡ [] = cc in
          let short : length (drop at left) ≡ 0 = ap length none in
          omega (arith, short, length-drop at left);
    }
