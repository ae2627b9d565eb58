use Rattle.sg_layout.specs.declared.shape.Shape.{Shape}
use Rattle.sg_store.proofs.Reached.{ReachLaws, open_at_start}
use Rattle.sg_store.proofs.LevelLaws as lemmas
use Rattle.sg_store.proofs.levels.opening_by_nodes.Goals as goal

laws : (c : goal.After-last_sparse_decides) → (shape : Shape) → ReachLaws shape
laws c shape = record {
  paths = c.paths_tell.ensures.is_slot shape;
  reached = c.need_counts_live.ensures.live shape;
  once = c.need_counts_live.ensures.once shape;
  parents = c.need_counts_live.ensures.parents shape;
  up_to = c.need_counts_live.ensures.greatest shape;
  absorbs = c.live_absorbs.ensures.absorbs shape;
  inside = λ written at has. (c.closure_members.ensures.inside shape written at has);
  grows = c.closure_closes.ensures.grows shape;
  closed = c.closure_closes.ensures.closed shape;
  cells = record {
    inside = c.numbering.ensures.inside_test;
    tested = c.closure_members.ensures.tested shape;
    is_slot = c.paths_tell.ensures.is_slot shape;
    whole = c.paths_tell.ensures.whole shape;
    tells = c.paths_tell.ensures.tells shape;
    last = c.last_sparse_decides.ensures.last shape;
  };
  point_of_row = c.numbering.ensures.point_of_row;
}

pub returns-clause-begins : goal.returns-clause-begins
returns-clause-begins c = λ store flat stands wanted. open_at_start store flat wanted stands

pub returns-clause-dense : goal.returns-clause-dense
returns-clause-dense c = λ store. lemmas.dense_opens store

pub returns-clause-full : goal.returns-clause-full
returns-clause-full c = λ store. lemmas.full_is_first store (laws c store.shape)

pub returns-clause-keys : goal.returns-clause-keys
returns-clause-keys c = λ store. lemmas.keys_fill_first store (laws c store.shape)

pub returns-clause-lengths : goal.returns-clause-lengths
returns-clause-lengths c = λ store. lemmas.lengths_fill_first store (laws c store.shape) (c.rules_decide.ensures.accepted store.shape)

pub returns-clause-hash_first : goal.returns-clause-hash_first
returns-clause-hash_first c = λ store. lemmas.hash_is_first store (c.rules_decide.ensures.accepted store.shape)

pub returns-clause-dynamic_last : goal.returns-clause-dynamic_last
returns-clause-dynamic_last c = λ store. lemmas.dynamic_is_last store (c.rules_decide.ensures.accepted store.shape)

pub returns-clause-room : goal.returns-clause-room
returns-clause-room c = λ store. lemmas.open_has_room store (laws c store.shape)

pub returns-clause-ends : goal.returns-clause-ends
returns-clause-ends c = λ store now. lemmas.open_stands store now (laws c store.shape)
