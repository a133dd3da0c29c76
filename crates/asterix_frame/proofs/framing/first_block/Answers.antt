use Rattle.std.proofs.Common.{◌≡◌, ◌∙◌, ap, sym, refl, ◌+◌, ◌-◌, ◌*◌, ◌<◌, ◌++◌, length, get_or, take, drop, arith, length-drop}
use Rattle.std.proofs.lemmas.Grind.{common_steps}
use Rattle.std.proofs.lemmas.List.{drop-drop, length-take, take_rest}
use Rattle.asterix_frame.specs.Blocks.{encoded}
use Rattle.asterix_frame.proofs.Heads.{head_at}
use Rattle.asterix_frame.proofs.framing.first_block.Goals as goal

pub returns-clause-found : goal.returns-clause-found
returns-clause-found c =
    let octets = drop c.args.from c.args.datagram.now in
    let n = c.from_be_bytes-length.result in
    let e : n ≡ 256 * get_or octets 1 0 + get_or octets 2 0 = grind (arith, common_steps, c.from_be_bytes-length.ensures, c.split_at.ensures.front) in
    let category : get_or octets 0 0 ≡ get_or c.split_at.result.0.now 0 0 = grind (arith, common_steps, c.split_at.ensures.front) in
    let high : get_or octets 1 0 < 256 = grind (arith, common_steps, c.type_inv.datagram (c.args.from + 1)) in
    let low : get_or octets 2 0 < 256 = grind (arith, common_steps, c.type_inv.datagram (c.args.from + 2)) in
    let long : length octets + c.args.from ≡ length c.args.datagram.now = omega (arith, length-drop c.args.from c.args.datagram.now) in
    let body-long : length (take (n - 3) c.split_at.result.1.now) + 3 ≡ n = omega (arith, length-take (n - 3) c.split_at.result.1.now) in
    let back : c.split_at.result.1.now ≡ drop 3 octets = c.split_at.ensures.back ∙ ap (drop 3) (take_rest c.args.datagram.now c.args.from) in
    let whole = head_at octets n (omega arith) e high low (omega arith) (omega arith) in
    record {
      fits = omega arith;
      octets = whole ∙ (λ i. encoded (record { category = category i; body = take (n - 3) (sym back i) }) ++ drop-drop n c.args.from c.args.datagram.now i) ∙ ap (λ k. encoded (record { category = get_or c.split_at.result.0.now 0 0; body = take (n - 3) c.split_at.result.1.now }) ++ drop k c.args.datagram.now) (omega arith);
      at_is = refl;
      within = omega arith;
    }
