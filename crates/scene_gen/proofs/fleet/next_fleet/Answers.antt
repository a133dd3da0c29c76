use Rattle.std.proofs.Common.{◌∙◌, ◌≡◌, rules, ap, sym, ◌*◌, ◌++◌, [], ◌∷◌, arith}
use Rattle.std.proofs.lemmas.List.FromFn.{map-range_with_len_more}
use Rattle.scene_gen.specs.Draws.{after}
use Rattle.scene_gen.specs.Fleets.{aircraft_of, fleet_from}
use Rattle.scene_gen.proofs.Drawing.{after_none, nine_more}
use Rattle.scene_gen.proofs.fleet.next_fleet.Goals as goal

pub loop-number-init : goal.loop-number-init
unfolding fleet_from
loop-number-init c = record { fleet = search rules; drawn = sym (after_none c.args.generator.now) }

pub loop-number-preserved : goal.loop-number-preserved
unfolding fleet_from
loop-number-preserved c =
    let inv = c.loop-number.invariant in
    let g = c.args.generator.now in
    let n = c.loop-number.number in
    let one : c.next_aircraft.result ≡ aircraft_of (after (9 * n) g) n = c.next_aircraft.ensures.aircraft ∙ ap (λ h. aircraft_of h n) inv.drawn in
    record {
      fleet = c.in_ok-push.ensures.items ∙ (λ i. inv.fleet i ++ one i ∷ []) ∙ sym (map-range_with_len_more (λ i. aircraft_of (after (9 * i) g) i) 0 n n (omega arith));
      drawn = nine_more g n inv.drawn c.next_aircraft.ensures.after;
    }
