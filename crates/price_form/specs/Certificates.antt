-- Certificates whose lists have the lengths that their problem asks for.
use Rattle.std.specs.Prelude.{◌≡◌, ◌<◌, ◌≤◌, ◌^◌, length, All, IfSome}
use Rattle.price_form.specs.declared.certs.Cert.{Cert}

-- one entry of each list for each plot or track, and no number that stands for none
pub record IsCert (c : Cert) : Type 0 where
  pub some_plot : 1 ≤ c.costs.plots
  pub few_tracks : c.costs.tracks < 4294967295
  pub few_edges : length c.costs.edges < 2 ^ 32
  pub plots : length c.plots ≡ c.costs.plots
  pub tracks : length c.tracks ≡ c.costs.tracks
  pub pairing : length c.pairing ≡ c.costs.plots
  pub named : All (λ x. IfSome x (λ t. t < c.costs.tracks)) c.pairing
  pub u : length c.u ≡ c.costs.plots
  pub v : length c.v ≡ c.costs.tracks
