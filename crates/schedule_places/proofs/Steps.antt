-- Laws of one step from place to place.
use Rattle.laws.proofs.Base.{◌≡◌, refl, Bool, true, false, cond, List, ℕ, ◌+◌, ◌≤◌, ◌<◌, arith, leb, leb-true, leb-false}
use Rattle.schedule.specs.Paper.{Told, octet_at, width, told}
use Rattle.schedule_places.specs.Inner.{took, past, step}

-- what a step that took a description says
module _ (m : List ℕ) (received at : ℕ) where
  pub record Taken (d : Told) (n : ℕ) : Type 0 where
    pub tells : d ≡ told m at
    pub moves : n ≡ at + width (octet_at m at)
    pub inside : n ≤ received

  pub step_took : (d : Told) (n : ℕ) → took d n ≡ step m received at → Taken d n
  unfolding step
  step_took d n e = go (leb (at + width (octet_at m at)) received) refl e
    where
      go : (b : Bool) → leb (at + width (octet_at m at)) received ≡ b → took d n ≡ cond b (took (told m at) (at + width (octet_at m at))) past → Taken d n
      go true q h =
          let moves : n ≡ at + width (octet_at m at) = cc in
          record { tells = cc; moves = moves; inside = omega (arith, leb-true (at + width (octet_at m at)) received q) }
      go false q h = let z : ◌≡◌ {A = ℕ} 0 1 = cc in absurd (omega arith)

  pub step_past : past ≡ step m received at → received < at + width (octet_at m at)
  unfolding step
  step_past e = go (leb (at + width (octet_at m at)) received) refl e
    where
      go : (b : Bool) → leb (at + width (octet_at m at)) received ≡ b
          → past ≡ cond b (took (told m at) (at + width (octet_at m at))) past → received < at + width (octet_at m at)
      go true q h = let z : ◌≡◌ {A = ℕ} 0 1 = cc in absurd (omega arith)
      go false q h = leb-false (at + width (octet_at m at)) received q
