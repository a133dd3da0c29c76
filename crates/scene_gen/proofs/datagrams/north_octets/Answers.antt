use Rattle.std.proofs.Common.{[], ◌∷◌, slice_index_or}
use Rattle.asterix_frame.specs.Encoding.{field_of, field_octet}
use Rattle.scene_gen.proofs.datagrams.north_octets.Goals as goal

pub returns : goal.returns
unfolding field_of field_octet
returns c =
    let tod = c.tod_octets.ensures in
    λ i. 2 ∷ c.args.radar.now.feed ∷ 0 ∷ 10 ∷ 34 ∷ 0 ∷ 10 ∷ 224 ∷ 1 ∷ c.args.radar.now.sic ∷ 1 ∷ slice_index_or (tod i) 0 0 ∷ slice_index_or (tod i) 1 0 ∷ slice_index_or (tod i) 2 0 ∷ []
