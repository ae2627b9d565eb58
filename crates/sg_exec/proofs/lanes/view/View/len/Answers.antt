use Rattle.std.proofs.Common.{◌≡◌, List, length, sym, ap, ◌∙◌, rules}
use Rattle.sg_store.specs.StoreWords.{StoreWords}
use Rattle.sg_exec.proofs.StoresLanded.{current_length}
use Rattle.sg_exec.proofs.lanes.view.View.len.Goals as goal

pub returns : goal.returns
returns c =
    let long : c.len.result ≡ length c.self.inside.stores.now.list = search rules in
    long ∙ sym (current_length c.self.inside.copies.now c.self.inside.stores.now.list) ∙ ap (λ (stores : List StoreWords). length stores) c.self.view_is
