-- The most that a run reads of a file beside its program.
use Rattle.std.specs.Prelude.{◌≡◌, refl, ℕ, ◌^◌}

-- a snapshot may have so many bytes
abbrev pub most_snapshot_bytes : ℕ
most_snapshot_bytes = 67108864

a-power : most_snapshot_bytes ≡ 2 ^ 26
a-power = refl
