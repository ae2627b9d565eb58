use Rattle.std.proofs.Common.{◌≡◌, ◌<◌, ◌∷◌, [], ◌++◌, ℕ, List, length, Some, None, sym, ap, ◌∙◌, subst, arith}
use Rattle.std.specs.Prelude.{slice_get, slice_index}
use Rattle.std.proofs.lemmas.Option.{same_Some}
use Rattle.sg_layout.specs.declared.shape.Shape.{Shape}
use Rattle.sg_words.specs.declared.operators.Ty.{Ty}
use Rattle.sg_flat.specs.declared.effects.Way.TheVariants.{Acc}
use Rattle.sg_accum.specs.declared.seat.AccSeat.{AccSeat}
use Rattle.sg_ir.specs.Apt.{Writes}
use Rattle.sg_store.specs.StoreWords.{StoreWords}
use Rattle.sg_store.specs.StandsFor.{StandsFor}
use Rattle.sg_store.specs.Rows.{IsFieldFront}
use Rattle.sg_exec.specs.declared.results.shared.Accumulated.{Accumulated}
use Rattle.sg_exec.specs.steps.Landing.{current}
use Rattle.sg_exec.specs.steps.Racing.{IsPassOf}
use Rattle.sg_exec.specs.steps.Passes.{HaveFields}
use Rattle.sg_exec.proofs.Giving.{at_below}
use Rattle.sg_exec.proofs.FieldsFound.{have_acc, have_pass, no_cell}
use Rattle.sg_exec.proofs.results.fields.add_pass.Goals as goal

pub returns-in-Some : goal.returns-in-Some
returns-in-Some g c = λ uses have.
    let mids = current c.args.reached.now c.args.stores.now.list in
    let fields = c.args.fields.now in
    let found = c.in-Some.ensures in
    have_acc mids c.args.layout c.args.field c.args.op uses fields.accumulated.items fields.seats.items fields.owned.items have
    (λ active. record {
      number = c.in-Some._number;
      it = found.0;
      there = subst (λ (list : List Accumulated). slice_get list c.in-Some._number ≡ Some found.0) c.as_slice.ensures.value found.1;
      layout_is = found.2;
      field_is = found.3;
    })

pub returns-in_default-get : goal.returns-in_default-get
returns-in_default-get g c = λ uses have.
    let mids = current c.args.reached.now c.args.stores.now.list in
    let fields = c.args.fields.now in
    let none : slice_get mids c.args.layout ≡ None = ap (λ (stores : List StoreWords). slice_get stores c.args.layout) (sym c.of-view.ensures) ∙ sym c.in_default-get.ensures.value in
    have_acc mids c.args.layout c.args.field c.args.op uses fields.accumulated.items fields.seats.items fields.owned.items have
    (λ active. let no : Some active.store ≡ None = sym active.there ∙ none in absurd (cc (no)))

pub returns-in_default-copied : goal.returns-in_default-copied
returns-in_default-copied g c = λ uses have.
    let mids = current c.args.reached.now c.args.stores.now.list in
    let fields = c.args.fields.now in
    let store = c.in-Some-get.store.now in
    let field = c.args.field in
    let there : slice_get mids c.args.layout ≡ Some store = ap (λ (stores : List StoreWords). slice_get stores c.args.layout) (sym c.of-view.ensures) ∙ sym c.in-Some-get.ensures.value in
    let none : slice_get store.shape.fields field ≡ None =
    ap (λ (s : Shape). slice_get s.fields field) (sym c.layout.ensures.layout) ∙ ap (λ (s : Shape). slice_get s.fields field) (sym c.shape.ensures.value)
    ∙ sym c.get-2.ensures.value ∙ sym c.copied.ensures ∙ c.in_default-copied.is in
    have_acc mids c.args.layout field c.args.op uses fields.accumulated.items fields.seats.items fields.owned.items have
    (λ active.
    let same : active.store ≡ store = same_Some _ _ (sym active.there ∙ there) in
    let some = at_below store.shape.fields field (subst (λ (s : StoreWords). field < length s.shape.fields) same active.field_there) in
    let no : Some some.0 ≡ None = sym some.1 ∙ none in
    absurd (cc (no)))

pub returns-then-values-eq0 : goal.returns-then-values-eq0
returns-then-values-eq0 g c = λ uses have.
    let mids = current c.args.reached.now c.args.stores.now.list in
    let fields = c.args.fields.now in
    let store = c.in-Some-get.store.now in
    let there : slice_get mids c.args.layout ≡ Some store = ap (λ (stores : List StoreWords). slice_get stores c.args.layout) (sym c.of-view.ensures) ∙ sym c.in-Some-get.ensures.value in
    have_acc mids c.args.layout c.args.field c.args.op uses fields.accumulated.items fields.seats.items fields.owned.items have
    (λ active.
    let same : active.store ≡ store = same_Some _ _ (sym active.there ∙ there) in
    absurd (no_cell store (c.cells_are_active.ensures.active store) (c.paths_tell.ensures.is_slot store.shape) (c.paths_tell.ensures.whole store.shape) c.layout.ensures.well_formed
    (λ cell reached. omega (arith, c.in_ok-front.ensures.front.all_reached cell reached, ap length c.as_slice-values.ensures, c.if-values-eq0.true)) active.flat
    (subst (λ (s : StoreWords). StandsFor s active.flat) same active.stands) active.at active.active))

pub returns : goal.returns
returns g c = λ uses have.
    let mids = current c.args.reached.now c.args.stores.now.list in
    let fields = c.args.fields.now in
    let store = c.in-Some-get.store.now in
    let field = c.args.field in
    let pass = c.in_ok-pass.pass in
    let it : Accumulated = record { layout = c.args.layout; field = c.args.field; op = c.args.op; ty = c.in-Some-copied.ty; pass = c.in_ok-pass.pass } in
    let there : slice_get mids c.args.layout ≡ Some store = ap (λ (stores : List StoreWords). slice_get stores c.args.layout) (sym c.of-view.ensures) ∙ sym c.in-Some-get.ensures.value in
    let is_ty : slice_get store.shape.fields field ≡ Some c.in-Some-copied.ty =
    ap (λ (s : Shape). slice_get s.fields field) (sym c.layout.ensures.layout) ∙ ap (λ (s : Shape). slice_get s.fields field) (sym c.shape.ensures.value)
    ∙ sym c.get-2.ensures.value ∙ sym c.copied.ensures ∙ c.in-Some-copied.is in
    let front = subst (IsFieldFront store) (sym c.as_slice-values.ensures) c.in_ok-front.ensures.front in
    let values = c.in_ok-pass.ensures.values in
    let made : IsPassOf mids it = record {
      store = store;
      there = there;
      field = is_ty ∙ ap (λ (ty : Ty). Some ty) (sym c.in_ok-pass.ensures.order);
      operator = c.in_ok-pass.ensures.operator;
      order = c.in_ok-pass.ensures.order;
      is_front = subst (λ (list : List ℕ). IsFieldFront store list) (sym values) front;
      words = λ cell. ap (λ (list : List ℕ). slice_index list cell) (values ∙ c.as_slice-values.ensures) ∙ c.in_ok-front.ensures.words cell;
    } in
    subst (λ (list : List Accumulated). HaveFields mids (uses ++ Writes c.args.layout c.args.field (Acc c.args.op) ∷ []) list c.push-2.new.self.items fields.owned.items) (sym {A = List Accumulated} c.in_ok-push.ensures.items)
    (subst (λ (seats : List AccSeat). HaveFields mids (uses ++ Writes c.args.layout c.args.field (Acc c.args.op) ∷ []) (fields.accumulated.items ++ it ∷ []) seats fields.owned.items) (sym {A = List AccSeat} c.in_ok-push-2.ensures.items)
    (have_pass mids uses fields.accumulated.items fields.seats.items fields.owned.items it c.in_ok-pass.seat have made c.in_ok-pass.ensures.seat c.in_ok-pass.ensures.new
    (subst (λ (list : List Accumulated). (k : ℕ) (other : Accumulated) → slice_get list k ≡ Some other → other.layout ≡ c.args.layout → other.field ≡ c.args.field → ⊥) c.as_slice.ensures.value c.in_default.ensures)))
