use Rattle.std.proofs.Common.{◌≡◌, sym, ap, ◌∙◌, true, false}
use Rattle.std.specs.Prelude.{is_some}
use Rattle.sg_hash.specs.Tables.{beside}
use Rattle.sg_store.proofs.Keyed.{key_there, none_of, key_put}
use Rattle.sg_store.proofs.hash.add_key.Goals as goal

pub returns-then-is_some : goal.returns-then-is_some
returns-then-is_some g c =
    let some : is_some (beside c.args.keys.now c.args.links.now c.args.slot) ≡ true = ap is_some (sym c.find_in.ensures.number) ∙ sym c.is_some.ensures ∙ c.if-is_some.true in
    key_there c.args.keys.now c.args.links.now c.args.slot c.args.number g.count c.requires some

pub returns : goal.returns
returns g c =
    let none : is_some (beside c.args.keys.now c.args.links.now c.args.slot) ≡ false = ap is_some (sym c.find_in.ensures.number) ∙ sym c.is_some.ensures ∙ c.if-is_some.false in
    key_put c.args.keys.now c.args.links.now c.put_in.new.keys c.put_in.new.links c.args.slot c.args.number g.count c.put_in.result c.requires (none_of (beside c.args.keys.now c.args.links.now c.args.slot) none)
    c.put_in.ensures.many c.put_in.ensures.full.0 c.put_in.ensures.table c.put_in.ensures.links c.put_in.ensures.put
