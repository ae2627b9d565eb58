use Rattle.std.proofs.Common.{List, sym, ap, ◌∙◌}
use Rattle.std.specs.Prelude.{Some, slice_get}
use Rattle.sg_store.specs.StoreWords.{StoreWords}
use Rattle.sg_exec.proofs.StoresLanded.{current_got, no_current}
use Rattle.sg_exec.proofs.lanes.view.View.get.Goals as goal

pub returns-in-Some : goal.returns-in-Some
returns-in-Some c = record {
  value = ap Some c.copy_or.ensures
      ∙ sym (current_got c.self.inside.copies.now c.self.inside.stores.now.list c.args.layout c.in-Some.store.now (sym c.in-Some.ensures.value))
      ∙ ap (λ (stores : List StoreWords). slice_get stores c.args.layout) c.self.view_is;
}

pub returns-in-None : goal.returns-in-None
returns-in-None c = record {
  value = sym (no_current c.self.inside.copies.now c.self.inside.stores.now.list c.args.layout (sym c.in-None.ensures.value))
      ∙ ap (λ (stores : List StoreWords). slice_get stores c.args.layout) c.self.view_is;
}
