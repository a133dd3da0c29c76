-- What the stamp and the line of a track's record are seen as in contracts.
use Rattle.std.specs.Prelude.{◌≡◌, ℕ, ◌<◌, ◌^◌, Bool, true, ◌||◌, Option, is_some, ℤ, pos, neg_ℤ, ◌≤ℤ◌, FitsSigned}
use Rattle.std.specs.Int.{w16}
use Rattle.std.specs.Option.{ForSome}
use Rattle.trk_base.specs.Ranges.{IsTimeOfDay, IsCode, IsAddress}

-- who tells a track, and when
pub record Stamp : Type 0 where
  pub sac : ℕ
  pub sic : ℕ
  pub service : ℕ
  pub tod : ℕ

-- an octet each, and a time of day
pub record IsStamp (s : Stamp) : Type 0 where
  pub sac : s.sac < 2 ^ 8
  pub sic : s.sic < 2 ^ 8
  pub service : s.service < 2 ^ 8
  pub tod : IsTimeOfDay s.tod

-- what is told of a track; psr, ssr and mds are ages
pub record TrackLine : Type 0 where
  pub number : ℕ
  pub x : ℤ
  pub y : ℤ
  pub vx : ℤ
  pub vy : ℤ
  pub code : Option ℕ
  pub address : Option ℕ
  pub level : Option ℤ
  pub psr : Option ℕ
  pub ssr : Option ℕ
  pub mds : Option ℕ
  pub mono : Bool
  pub spi : Bool
  pub coast : Bool
  pub first : Bool
  pub ended : Bool
  pub sx : ℕ
  pub sy : ℕ

-- a whole number in 24 bits, with its sign
abbrev pub IsPosition : ℤ → Type 0
IsPosition z = (neg_ℤ (pos 8388608) ≤ℤ z) × (z ≤ℤ pos 8388607)

-- an age, if there is one, has an octet
abbrev pub IsAge : Option ℕ → Type 0
IsAge age = ForSome age (λ a. a < 2 ^ 8)

-- each value has as many bits as its item, and some radar detected the track
pub record IsTrackLine (l : TrackLine) : Type 0 where
  pub number : l.number < 2 ^ 16
  pub x : IsPosition l.x
  pub y : IsPosition l.y
  pub vx : FitsSigned w16 l.vx
  pub vy : FitsSigned w16 l.vy
  pub code : IsCode l.code
  pub address : IsAddress l.address
  pub level : ForSome l.level (λ z. FitsSigned w16 z)
  pub psr : IsAge l.psr
  pub ssr : IsAge l.ssr
  pub mds : IsAge l.mds
  pub detected : (is_some l.psr || is_some l.ssr || is_some l.mds) ≡ true
  pub sx : l.sx < 2 ^ 16
  pub sy : l.sy < 2 ^ 16
