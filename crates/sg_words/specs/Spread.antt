-- What spreads along links from where it starts.
use Rattle.std.specs.Prelude.{◌≡◌, ℕ, Bool, true, false, not, ◌&&◌, ◌||◌, List, get_or}
use Rattle.std.specs.List.{list_all}
use Rattle.sg_words.specs.declared.spreads.Link.{Link}

-- a set of places that has each start, and each place where a link from one of it leads
abbrev pub has_spread : (ℕ → Bool) → List Link → List ℕ → Bool
has_spread places links start = list_all (λ link. not (places link.from) || places link.to) links && list_all places start

-- the place is marked; one after the last of the marks isn't
abbrev pub bears_mark : List Bool → ℕ → Bool
bears_mark marks place = get_or marks place false

-- the least such set
pub record IsLeastSpread (links : List Link) (start : List ℕ) (marks : List Bool) : Type 0 where
  pub spread : has_spread (bears_mark marks) links start ≡ true
  pub least : (places : ℕ → Bool) → has_spread places links start ≡ true → (place : ℕ) → bears_mark marks place ≡ true → places place ≡ true
