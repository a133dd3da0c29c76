use Rattle.std.proofs.Common.{◌≡◌, ℕ, List, [], replicate}
use Rattle.std.proofs.lemmas.Result.{IfOk-weaker}
use Rattle.scene_gen.specs.OnWay.{AreOnWay}
use Rattle.scene_gen.proofs.Coming as coming
use Rattle.scene_gen.proofs.delays.none_on_way.Goals as goal

pub returns : goal.returns
returns c = IfOk-weaker c.new.result (λ (b : List (List (List ℕ))). b ≡ replicate 1088 []) (AreOnWay [] 0) (λ b made. coming.none_on_way made) c.new.ensures
