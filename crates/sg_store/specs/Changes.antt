-- What settling new words for one node changes of a store.
use Rattle.std.specs.Prelude.{◌≡◌, ℕ, List, Some, slice_get, slice_set}
use Rattle.sg_dynamic.specs.Chunks.{IsExact, AreFitted}
use Rattle.sg_pool.specs.Numbers.{IsSettled, IsParted}
use Rattle.sg_store.specs.declared.node.NodeWords.{NodeWords}
use Rattle.sg_store.specs.StoreWords.{StoreWords}

-- a pointer node's words with other links, whose numbers of `taken` have become live
pub record IsRelinked (links taken : List ℕ) (kept after : NodeWords) : Type 0 where
  pub new_links : after.links ≡ links
  pub pool : IsSettled kept.pool after.pool taken
  pub parted : IsParted after.pool
  pub same_keys : after.keys ≡ kept.keys
  pub same_masks : after.masks ≡ kept.masks
  pub same_lengths : after.lengths ≡ kept.lengths
  pub same_chains : after.chains ≡ kept.chains

-- a hash node's words with another table, whose numbers of `taken` have become live
pub record IsRekeyed (keys links taken : List ℕ) (kept after : NodeWords) : Type 0 where
  pub new_keys : after.keys ≡ keys
  pub new_links : after.links ≡ links
  pub pool : IsSettled kept.pool after.pool taken
  pub parted : IsParted after.pool
  pub same_masks : after.masks ≡ kept.masks
  pub same_lengths : after.lengths ≡ kept.lengths
  pub same_chains : after.chains ≡ kept.chains

-- a bitmasked node's words with other masks
pub record IsRemasked (masks : List ℕ) (kept after : NodeWords) : Type 0 where
  pub new_masks : after.masks ≡ masks
  pub same_keys : after.keys ≡ kept.keys
  pub same_links : after.links ≡ kept.links
  pub same_lengths : after.lengths ≡ kept.lengths
  pub same_chains : after.chains ≡ kept.chains
  pub same_pool : after.pool ≡ kept.pool

-- a dynamic node's words with other lengths, and chains that fit them
pub record IsRefitted (lengths : List ℕ) (chunk : ℕ) (kept after : NodeWords) : Type 0 where
  pub new_lengths : after.lengths ≡ lengths
  pub fitted : AreFitted kept.chains after.chains lengths chunk
  pub exact : IsExact after.chains after.pool
  pub parted : IsParted after.pool
  pub same_keys : after.keys ≡ kept.keys
  pub same_links : after.links ≡ kept.links
  pub same_masks : after.masks ≡ kept.masks

-- the store is as before except for the words of the node with this index, from 0, which have become others
pub record ChangesNode (Change : NodeWords → NodeWords → Type 0) (old now : StoreWords) (index : ℕ) : Type 0 where
  pub kept : NodeWords
  pub was : slice_get old.nodes index ≡ Some kept
  pub after : NodeWords
  pub change : Change kept after
  pub now_is : now ≡ record old { nodes = slice_set old.nodes index after }
