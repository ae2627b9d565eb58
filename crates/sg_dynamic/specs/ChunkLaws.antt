-- What fitting leaves of the pool.
use Rattle.std.specs.Prelude.{◌≡◌, ℕ, ◌<◌, ◌≤◌, Some, false, IsTrue, List, length, slice_get}
use Rattle.sg_links.specs.Lists.{Lists, list_of}
use Rattle.sg_pool.specs.Numbers.{PoolNumbers, is_live_number}
use Rattle.sg_dynamic.specs.Chunks.{IsExact, HaveRoom, AreFitted}

-- what a chain has got at its end was not live
abbrev pub AddedWereFree : Lists → Lists → PoolNumbers → PoolNumbers → List ℕ → ℕ → Type 0
AddedWereFree old new before after lengths chunk =
    HaveRoom old lengths chunk → IsExact old before → IsExact new after → AreFitted old new lengths chunk → (head place x : ℕ) →
    head < length lengths → length (list_of old head) ≤ place → slice_get (list_of new head) place ≡ Some x →
    is_live_number before x ≡ false

-- and what was live is live
abbrev pub StayLive : Lists → Lists → PoolNumbers → PoolNumbers → List ℕ → ℕ → Type 0
StayLive old new before after lengths chunk =
    HaveRoom old lengths chunk → IsExact old before → IsExact new after → AreFitted old new lengths chunk → (x : ℕ) →
    IsTrue (is_live_number before x) → IsTrue (is_live_number after x)
