use Rattle.std.proofs.Common.{◌<◌, List, length, Result, Ok, Err, refl, sym, ap, ◌∙◌, arith}
use Rattle.std.specs.Prelude.{OnOk, slice_get, slice_set}
use Rattle.std.proofs.lemmas.Option.{slice_get_read}
use Rattle.sg_words.specs.declared.memory.Memory.{Memory}
use Rattle.sg_store.specs.StoreWords.{StoreWords}
use Rattle.sg_store.proofs.store.Stores.prune.Goals as goal

on_ok : {P Q : Type 0} → (r : Result Unit Memory) → (P → Q) → OnOk r P → OnOk r Q
on_ok (Ok done) f h = f h
on_ok (Err memory) f h = tt

pub returns-clause-pruned : goal.returns-clause-pruned
returns-clause-pruned c =
    let owned : List StoreWords = c.moved-owned.result.items in
    let there : c.args.number < length c.moved-owned.result.items = omega (arith, ap length c.moved-owned.ensures, c.requires) in
    on_ok c.prune-answer.result
    (λ stands. record {
      store = c.index_mut-store.result.now;
      was = ap (λ (stores : List StoreWords). slice_get stores c.args.number) (sym c.moved-owned.ensures)
          ∙ slice_get_read owned (length owned) c.args.number c.index_mut-store.result.now refl there c.index_mut-store.ensures.value;
      next = c.prune-answer.new.self;
      change = record { same_shape = c.prune-answer.ensures.same_shape; stands = stands; links = c.prune-answer.ensures.links };
      now_is = c.from_vec.ensures ∙ ap (λ (stores : List StoreWords). slice_set stores c.args.number c.prune-answer.new.self) c.moved-owned.ensures;
    }) c.prune-answer.ensures.pruned
