use Rattle.std.proofs.Common.{◌∙◌, sym, ap, subst, refl, arith, ◌++◌, ◌∷◌, ◌+◌, drop, length, find}
use Rattle.std.proofs.lemmas.List.{drop_more, at_drop_all}
use Rattle.std.proofs.Common.{append-nil}
use Rattle.sg_ast.specs.Token.{same_name}
use Rattle.sg_names.specs.Declares.{fields_from}
use Rattle.sg_names.proofs.Declaring.{IsPushing, AreNew, pushing_more, same_pushed}
use Rattle.sg_names.proofs.names.push_fields.Goals as goal

pub loop-place-init : goal.loop-place-init
loop-place-init c = record { same = refl; new = c.requires.new; distinct = c.requires.distinct; room = c.requires.room }

pub push-requires-clause-new : goal.push-requires-clause-new
push-requires-clause-new c =
    let left = drop_more c.args.decls.now c.loop-place.place c.index-decls-place.result c.loop-place-test.true
    ∙ ap (λ decl. decl ∷ drop (c.loop-place.place + 1) c.args.decls.now) (sym c.index-decls-place.is) in
    ap (λ name. find (λ named. same_name name named.name) c.loop-place.fields) c.in_ok-name.ensures
    ∙ (subst (AreNew c.loop-place.fields) left c.loop-place.invariant.new).0

pub push-requires-clause-room : goal.push-requires-clause-room
push-requires-clause-room c =
    let left = drop_more c.args.decls.now c.loop-place.place c.index-decls-place.result c.loop-place-test.true in
    let longer = ap length left in
    omega (arith, longer, c.loop-place.invariant.room)

pub loop-place-preserved : goal.loop-place-preserved
loop-place-preserved c =
    let whole = c.args.fields.now ++ fields_from c.args.layout (length c.args.fields.now) 0 c.args.decls.now in
    let left = drop_more c.args.decls.now c.loop-place.place c.index-decls-place.result c.loop-place-test.true
    ∙ ap (λ decl. decl ∷ drop (c.loop-place.place + 1) c.args.decls.now) (sym c.index-decls-place.is) in
    let more = pushing_more c.args.layout c.loop-place.place whole c.loop-place.fields c.index-decls-place.result (drop (c.loop-place.place + 1) c.args.decls.now)
    (subst (IsPushing c.args.layout c.loop-place.place whole c.loop-place.fields) left c.loop-place.invariant) in
    let pushed = c.in_ok-push.ensures
    ∙ same_pushed c.loop-place.fields c.in_ok-name.name c.len.result c.args.layout c.loop-place.place c.index-decls-place.result c.in_ok-name.ensures c.len.ensures.value in
    subst (λ fields. IsPushing c.args.layout (c.loop-place.place + 1) whole fields (drop (c.loop-place.place + 1) c.args.decls.now)) (sym pushed) more

pub returns : goal.returns
returns c =
    let whole = c.args.fields.now ++ fields_from c.args.layout (length c.args.fields.now) 0 c.args.decls.now in
    let last = at_drop_all (λ left. c.loop-place.fields ++ fields_from c.args.layout (length c.loop-place.fields) c.loop-place.place left) c.args.decls.now c.loop-place.place c.loop-place-test.false in
    sym (append-nil c.loop-place.fields) ∙ (sym last ∙ c.loop-place.invariant.same)
