use Rattle.std.proofs.Common.{[], ◌∷◌, slice_index_or}
use Rattle.asterix_frame.specs.Encoding.{field_of, field_octet}
use Rattle.scene_gen.proofs.datagrams.plot_octets.Goals as goal

pub returns : goal.returns
unfolding field_of field_octet
returns c =
    let tod = c.tod_octets.ensures in
    let rho = c.to_be_bytes.ensures in
    let theta = c.to_be_bytes-2.ensures in
    let code = c.to_be_bytes-3.ensures in
    let level = c.to_be_bytes-4.ensures in
    let address = c.to_be_bytes-5.ensures in
    λ i.
    2 ∷ c.args.radar.now.feed ∷ 0 ∷ 22 ∷ 48 ∷ 0 ∷ 22 ∷ 253 ∷ 128 ∷ 1 ∷ c.args.radar.now.sic
    ∷ slice_index_or (tod i) 0 0 ∷ slice_index_or (tod i) 1 0 ∷ slice_index_or (tod i) 2 0
    ∷ 160
    ∷ slice_index_or (rho i) 0 0 ∷ slice_index_or (rho i) 1 0 ∷ slice_index_or (theta i) 0 0 ∷ slice_index_or (theta i) 1 0
    ∷ slice_index_or (code i) 0 0 ∷ slice_index_or (code i) 1 0 ∷ slice_index_or (level i) 0 0 ∷ slice_index_or (level i) 1 0
    ∷ slice_index_or (address i) 1 0 ∷ slice_index_or (address i) 2 0 ∷ slice_index_or (address i) 3 0 ∷ []
