-- The fields that code writes, one use after the other.
use Rattle.std.proofs.Common.{◌≡◌, ℕ, zero, suc, ◌+◌, ◌<◌, Bool, true, false, inl, inr, ◌⊎◌, List, [], ◌∷◌, ◌++◌, map, length, take, get_or, ℤ, Option, Some, None, refl, sym, ap, ◌∙◌, subst, arith, append_assoc}
use Rattle.std.specs.Prelude.{slice_get, Contains, IsSome}
use Rattle.std.specs.List.{flat_map}
use Rattle.std.proofs.lemmas.List.{append-nil, take_more, length-append}
use Rattle.std.proofs.lemmas.List.Elements.{Contains-append_left, Contains-append_right, Contains-append_cases}
use Rattle.std.proofs.lemmas.Option.{same_Some, slice_get_within}
use Rattle.sg_words.specs.declared.operators.AccOp.{AccOp}
use Rattle.sg_words.proofs.Uses.{contains_none, contains_head, contains_cases}
use Rattle.sg_accum.specs.declared.seat.AccSeat.{AccSeat}
use Rattle.sg_accum.specs.Folding.{IsSeatOf, IsNew}
use Rattle.sg_flat.specs.declared.effects.Way.{Way}
use Rattle.sg_flat.specs.declared.effects.Way.TheVariants.{Own, Acc}
use Rattle.sg_coord.specs.declared.coord.Coord.{Coord}
use Rattle.sg_layout.specs.PathLaws.{PathIsSlot, WholePathIsOffsets}
use Rattle.sg_flat.specs.declared.state.FlatLayout.{FlatLayout}
use Rattle.sg_store.specs.StoreWords.{StoreWords}
use Rattle.sg_store.specs.Walks.{cell_in}
use Rattle.sg_store.specs.WellFormed.{IsReached, IsWellFormed}
use Rattle.sg_store.specs.StandsFor.{StandsFor}
use Rattle.sg_store.specs.StoreLaws.{CellsAreActive}
use Rattle.sg_store.proofs.Uses.{cell_is_reached}
use Rattle.sg_ir.specs.declared.code.Inst.{Inst}
use Rattle.sg_ir.specs.declared.code.Inst.TheVariants as v
use Rattle.sg_ir.specs.Runs.{is_own}
use Rattle.sg_ir.specs.Apt.{Use, Writes, Reads, ReadsOwn, uses_step, uses_in}
use Rattle.sg_ir.proofs.Uses.{uses-append, fold-Const, fold-Var, fold-Set, fold-Bin, fold-Un, fold-Mulq, fold-Root, fold-Check, fold-Extract, fold-Offset, fold-Child, fold-HashChild, fold-MaskBit, fold-DynCell, fold-ReadCell, fold-IsActive, fold-OwnRead, fold-OwnWrite, fold-Acc, fold-Want, fold-If, fold-For, by_inst}
use Rattle.sg_exec.proofs.UsedWrites.{flat_of_map}
use Rattle.sg_exec.specs.declared.results.shared.Accumulated.{Accumulated}
use Rattle.sg_exec.specs.declared.results.shared.Owned.{Owned}
use Rattle.sg_exec.specs.declared.results.written_fields.WrittenFields.{WrittenFields}
use Rattle.sg_exec.specs.steps.Racing.{IsPassOf}
use Rattle.sg_exec.specs.steps.Passes.{uses_of, HasPass, HasActive, IsAmong, HaveFields, HaveWritten, AddsUses}

-- ---- lists with one item more

pub snoc_old : {X : Type 0} (xs : List X) (x y : X) (k : ℕ) → slice_get xs k ≡ Some y → slice_get (xs ++ x ∷ []) k ≡ Some y
snoc_old [] x y k is = absurd (cc)
snoc_old (z ∷ xs) x y zero is = is
snoc_old (z ∷ xs) x y (suc k) is = snoc_old xs x y k is

pub snoc_new : {X : Type 0} (xs : List X) (x : X) → slice_get (xs ++ x ∷ []) (length xs) ≡ Some x
snoc_new [] x = refl
snoc_new (z ∷ xs) x = snoc_new xs x

pub snoc_cases : {X : Type 0} (xs : List X) (x y : X) (k : ℕ) → slice_get (xs ++ x ∷ []) k ≡ Some y → (slice_get xs k ≡ Some y) ⊎ ((k ≡ length xs) × (x ≡ y))
snoc_cases [] x y zero is = inr (refl, same_Some _ _ is)
snoc_cases [] x y (suc k) is = absurd (cc)
snoc_cases (z ∷ xs) x y zero is = inl is
snoc_cases {X} (z ∷ xs) x y (suc k) is = by (snoc_cases xs x y k is)
  where
    by : (slice_get xs k ≡ Some y) ⊎ ((k ≡ length xs) × (x ≡ y)) → (slice_get xs k ≡ Some y) ⊎ ((suc k ≡ suc (length xs)) × (x ≡ y))
    by (inl e) = inl e
    by (inr (e, s)) = inr (ap suc e, s)

-- ---- what a use tells

abbrev layout_of : Use → ℕ
layout_of (Writes layout field way) = layout
layout_of (Reads layout field) = layout
layout_of (ReadsOwn layout field) = layout

abbrev field_of : Use → ℕ
field_of (Writes layout field way) = field
field_of (Reads layout field) = field
field_of (ReadsOwn layout field) = field

abbrev is_own_use : Use → Bool
is_own_use (Writes layout field way) = is_own way
is_own_use (Reads layout field) = true
is_own_use (ReadsOwn layout field) = true

one_use : (more used : Use) → Contains (more ∷ []) used → more ≡ used
one_use more used has = by (contains_cases used more [] has)
  where
    by : (more ≡ used) ⊎ Contains [] used → more ≡ used
    by (inl same) = same
    by (inr none) = absurd (contains_none used none)

not_own : (l m f g : ℕ) (op : AccOp) → Writes l f Own ≡ Writes m g (Acc op) → ⊥
not_own l m f g op same = let no : true ≡ false = ap is_own_use same in absurd (cc (no))

-- ---- the fields of a list of uses

module _ (stores : List StoreWords) where
  pub have_none : HaveFields stores [] [] [] []
  have_none = record {
    passes = record { each = λ k it at. absurd (cc (at)); apart = λ j k it other at also l f. absurd (cc (at)) };
    are_seats = record { long = refl; own = λ k it seat at also. absurd (cc (at)) };
    new = λ k seat at. absurd (cc (at));
    used = λ k it at. absurd (cc (at));
    each = λ layout field op has active. absurd (contains_none _ has);
    own = λ layout field has. absurd (contains_none _ has);
    own_used = λ own has. absurd (contains_none _ has);
  }

  -- more uses, for whose fields there is what is needed
  pub have_more : (uses more : List Use) (accumulated : List Accumulated) (seats : List AccSeat) (owned : List Owned) → HaveFields stores uses accumulated seats owned
      → ((layout field : ℕ) (op : AccOp) → Contains more (Writes layout field (Acc op)) → HasActive stores layout field → HasPass accumulated layout field)
      → ((layout field : ℕ) → Contains more (Writes layout field Own) → IsAmong layout field owned)
      → HaveFields stores (uses ++ more) accumulated seats owned
  have_more uses more accumulated seats owned have each own = record {
    passes = have.passes;
    are_seats = have.are_seats;
    new = have.new;
    used = λ k it at. Contains-append_left uses more _ (have.used k it at);
    each = λ layout field op has active. elim (Contains-append_cases uses more (Writes layout field (Acc op)) has) [
      | inl before ↦ have.each layout field op before active
      | inr later ↦ each layout field op later active
    ];
    own = λ layout field has. elim (Contains-append_cases uses more (Writes layout field Own) has) [
      | inl before ↦ have.own layout field before
      | inr later ↦ own layout field later
    ];
    own_used = λ it has. Contains-append_left uses more _ (have.own_used it has);
  }

  -- an accumulated field that has a pass, or no cell
  pub have_acc : (layout field : ℕ) (op : AccOp) (uses : List Use) (accumulated : List Accumulated) (seats : List AccSeat) (owned : List Owned) → HaveFields stores uses accumulated seats owned
      → (HasActive stores layout field → HasPass accumulated layout field) → HaveFields stores (uses ++ Writes layout field (Acc op) ∷ []) accumulated seats owned
  have_acc layout field op uses accumulated seats owned have found =
      have_more uses (Writes layout field (Acc op) ∷ []) accumulated seats owned have
      (λ l f other has active.
      let same = one_use (Writes layout field (Acc op)) (Writes l f (Acc other)) has in
      let at : layout ≡ l = ap layout_of same in
      let there : field ≡ f = ap field_of same in
      subst (λ (n : ℕ). HasPass accumulated n f) at (subst (λ (p : ℕ). HasPass accumulated layout p) there
      (found (subst (λ (n : ℕ). HasActive stores n field) (sym at) (subst (λ (p : ℕ). HasActive stores l p) (sym there) active)))))
      (λ l f has. absurd (not_own l layout f field op (sym (one_use (Writes layout field (Acc op)) (Writes l f Own) has))))

  -- an own-written field that is listed
  pub have_own : (layout field : ℕ) (uses : List Use) (accumulated : List Accumulated) (seats : List AccSeat) (owned : List Owned) → HaveFields stores uses accumulated seats owned
      → IsAmong layout field owned → HaveFields stores (uses ++ Writes layout field Own ∷ []) accumulated seats owned
  have_own layout field uses accumulated seats owned have among =
      have_more uses (Writes layout field Own ∷ []) accumulated seats owned have
      (λ l f op has active. absurd (not_own layout l field f op (one_use (Writes layout field Own) (Writes l f (Acc op)) has)))
      (λ l f has.
      let same = one_use (Writes layout field Own) (Writes l f Own) has in
      let at : layout ≡ l = ap layout_of same in
      let there : field ≡ f = ap field_of same in
      subst (λ (n : ℕ). IsAmong n f owned) at (subst (λ (p : ℕ). IsAmong layout p owned) there among))

  -- another own-written field
  pub have_owned : (uses : List Use) (accumulated : List Accumulated) (seats : List AccSeat) (owned : List Owned) (own : Owned) → HaveFields stores uses accumulated seats owned
      → HaveFields stores (uses ++ Writes own.layout own.field Own ∷ []) accumulated seats (owned ++ own ∷ [])
  have_owned uses accumulated seats owned own have = record {
    passes = have.passes;
    are_seats = have.are_seats;
    new = have.new;
    used = λ k it at. Contains-append_left uses (Writes own.layout own.field Own ∷ []) _ (have.used k it at);
    each = λ layout field op has active. elim (Contains-append_cases uses (Writes own.layout own.field Own ∷ []) (Writes layout field (Acc op)) has) [
      | inl before ↦ have.each layout field op before active
      | inr new ↦ absurd (not_own own.layout layout own.field field op (one_use (Writes own.layout own.field Own) (Writes layout field (Acc op)) new))
    ];
    own = λ layout field has. elim (Contains-append_cases uses (Writes own.layout own.field Own ∷ []) (Writes layout field Own) has) [
      | inl before ↦ (let is = have.own layout field before in (is.0, (Contains-append_left owned (own ∷ []) is.0 is.1.0, is.1.1)))
      | inr new ↦ (let same = one_use (Writes own.layout own.field Own) (Writes layout field Own) new in
          (own, (Contains-append_right owned (own ∷ []) own (contains_head own own [] refl), (ap layout_of same, ap field_of same))))
    ];
    own_used = λ it has. elim (Contains-append_cases owned (own ∷ []) it has) [
      | inl before ↦ Contains-append_left uses (Writes own.layout own.field Own ∷ []) _ (have.own_used it before)
      | inr new ↦ Contains-append_right uses (Writes own.layout own.field Own ∷ []) _ (into_uses it new)
    ];
  }
    where
      into_uses : (it : Owned) → Contains (own ∷ []) it → Contains (Writes own.layout own.field Own ∷ []) (Writes it.layout it.field Own)
      into_uses it has = by (contains_cases it own [] has)
        where
          by : (own ≡ it) ⊎ Contains [] it → Contains (Writes own.layout own.field Own ∷ []) (Writes it.layout it.field Own)
          by (inl same) = contains_head (Writes it.layout it.field Own) (Writes own.layout own.field Own) [] (ap (λ (o : Owned). Writes o.layout o.field Own) same)
          by (inr none) = absurd (contains_none it none)

  -- another pass
  pub have_pass : (uses : List Use) (accumulated : List Accumulated) (seats : List AccSeat) (owned : List Owned) (it : Accumulated) (seat : AccSeat) → HaveFields stores uses accumulated seats owned
      → IsPassOf stores it → IsSeatOf it.pass seat → IsNew 16 seat
      → ((k : ℕ) (other : Accumulated) → slice_get accumulated k ≡ Some other → other.layout ≡ it.layout → other.field ≡ it.field → ⊥)
      → HaveFields stores (uses ++ Writes it.layout it.field (Acc it.op) ∷ []) (accumulated ++ it ∷ []) (seats ++ seat ∷ []) owned
  have_pass uses accumulated seats owned it seat have pass is_seat new_seat none = record {
    passes = record {
      each = λ k one at. elim (snoc_cases accumulated it one k at) [
        | inl before ↦ have.passes.each k one before
        | inr (here, same) ↦ subst (λ (a : Accumulated). IsPassOf stores a) same pass
      ];
      apart = λ j k one other at also layouts fields. elim (snoc_cases accumulated it one j at) [
        | inl before ↦ elim (snoc_cases accumulated it other k also) [
          | inl before' ↦ have.passes.apart j k one other before before' layouts fields
          | inr (here', same') ↦ absurd (none j one before (layouts ∙ ap (λ (a : Accumulated). a.layout) (sym same')) (fields ∙ ap (λ (a : Accumulated). a.field) (sym same')))
        ]
        | inr (here, same) ↦ elim (snoc_cases accumulated it other k also) [
          | inl before' ↦ absurd (none k other before' (sym layouts ∙ ap (λ (a : Accumulated). a.layout) (sym same)) (sym fields ∙ ap (λ (a : Accumulated). a.field) (sym same)))
          | inr (here', same') ↦ here ∙ sym here'
        ]
      ];
    };
    are_seats = record {
      long = length-append seats (seat ∷ []) ∙ ap (λ (n : ℕ). n + 1) have.are_seats.long ∙ sym (length-append accumulated (it ∷ []));
      own = λ k one s at also. elim (snoc_cases accumulated it one k at) [
        | inl before ↦ elim (snoc_cases seats seat s k also) [
          | inl before' ↦ have.are_seats.own k one s before before'
          | inr (here', same') ↦ absurd (let below = slice_get_within accumulated k one before in let long = have.are_seats.long in omega (arith, below, long, here'))
        ]
        | inr (here, same) ↦ elim (snoc_cases seats seat s k also) [
          | inl before' ↦ absurd (let below = slice_get_within seats k s before' in let long = have.are_seats.long in omega (arith, below, long, here))
          | inr (here', same') ↦ subst (λ (a : Accumulated). IsSeatOf a.pass s) same (subst (λ (x : AccSeat). IsSeatOf it.pass x) same' is_seat)
        ]
      ];
    };
    new = λ k s also. elim (snoc_cases seats seat s k also) [
      | inl before' ↦ have.new k s before'
      | inr (here', same') ↦ subst (λ (x : AccSeat). IsNew 16 x) same' new_seat
    ];
    used = λ k one at. elim (snoc_cases accumulated it one k at) [
      | inl before ↦ Contains-append_left uses (Writes it.layout it.field (Acc it.op) ∷ []) _ (have.used k one before)
      | inr (here, same) ↦ subst (λ (a : Accumulated). Contains (uses ++ Writes it.layout it.field (Acc it.op) ∷ []) (Writes a.layout a.field (Acc a.op))) same
          (Contains-append_right uses (Writes it.layout it.field (Acc it.op) ∷ []) (Writes it.layout it.field (Acc it.op)) (contains_head (Writes it.layout it.field (Acc it.op)) (Writes it.layout it.field (Acc it.op)) [] refl))
    ];
    each = λ layout field op has active. elim (Contains-append_cases uses (Writes it.layout it.field (Acc it.op) ∷ []) (Writes layout field (Acc op)) has) [
      | inl before ↦ later layout field (have.each layout field op before active)
      | inr new ↦ (let same = one_use (Writes it.layout it.field (Acc it.op)) (Writes layout field (Acc op)) new in
          record { number = length accumulated; it = it; there = snoc_new accumulated it; layout_is = ap layout_of same; field_is = ap field_of same })
    ];
    own = λ layout field has. elim (Contains-append_cases uses (Writes it.layout it.field (Acc it.op) ∷ []) (Writes layout field Own) has) [
      | inl before ↦ have.own layout field before
      | inr new ↦ absurd (not_own layout it.layout field it.field it.op (sym (one_use (Writes it.layout it.field (Acc it.op)) (Writes layout field Own) new)))
    ];
    own_used = λ own has. Contains-append_left uses (Writes it.layout it.field (Acc it.op) ∷ []) _ (have.own_used own has);
  }
    where
      later : (layout field : ℕ) → HasPass accumulated layout field → HasPass (accumulated ++ it ∷ []) layout field
      later layout field has = record { number = has.number; it = has.it; there = snoc_old accumulated it has.it has.number has.there; layout_is = has.layout_is; field_is = has.field_is }

  -- lists without items
  pub have_empty : (accumulated : List Accumulated) (seats : List AccSeat) (owned : List Owned) → accumulated ≡ [] → seats ≡ [] → owned ≡ [] → HaveFields stores [] accumulated seats owned
  have_empty accumulated seats owned a s o =
      subst (λ (xs : List Accumulated). HaveFields stores [] xs seats owned) (sym a)
      (subst (λ (ys : List AccSeat). HaveFields stores [] [] ys owned) (sym s) (subst (λ (zs : List Owned). HaveFields stores [] [] [] zs) (sym o) have_none))

-- a store without reached cells has no active coordinate
pub no_cell : (store : StoreWords) → CellsAreActive store → PathIsSlot store.shape → WholePathIsOffsets store.shape → IsWellFormed store → ((cell : ℕ) → IsReached store cell → ⊥) → (flat : FlatLayout) → StandsFor store flat → (at : Coord) → Contains flat.active at → ⊥
no_cell store law is_slot whole well none flat stands at active = by (cell_in store at) refl ((law well flat stands at).1 active)
  where
    by : (found : Option ℕ) → cell_in store at ≡ found → IsSome (cell_in store at) → ⊥
    by None is some = let nothing : IsSome {T = ℕ} None = subst (λ (o : Option ℕ). IsSome o) is some in absurd (cc (nothing))
    by (Some cell) is some = none cell (cell_is_reached store is_slot whole well at cell is)

-- ---- along code

pub adds_none : (stores : List StoreWords) (fields : WrittenFields) → AddsUses stores [] fields fields
adds_none stores fields = λ uses have. subst (λ (us : List Use). HaveWritten stores us fields) (sym (append-nil uses)) have

pub adds_both : (stores : List StoreWords) (first second : List Use) (old mid now : WrittenFields) → AddsUses stores first old mid → AddsUses stores second mid now → AddsUses stores (first ++ second) old now
adds_both stores first second old mid now one two = λ uses have.
    subst (λ (us : List Use). HaveWritten stores us now) (append_assoc uses first second) (two (uses ++ first) (one uses have))

-- one instruction more
pub adds_next : (stores : List StoreWords) (code : List Inst) (i : ℕ) (d inst : Inst) (old mid now : WrittenFields) → i < length code → inst ≡ get_or code i d
    → AddsUses stores (uses_in (take i code)) old mid → AddsUses stores (uses_of inst) mid now → AddsUses stores (uses_in (take (i + 1) code)) old now
adds_next stores code i d inst old mid now below is one two =
    let last : uses_in (inst ∷ []) ≡ uses_of inst = append-nil (uses_of inst) in
    let more : uses_in (take (i + 1) code) ≡ uses_in (take i code) ++ uses_of inst =
    ap uses_in (take_more code i d below ∙ ap (λ (x : Inst). take i code ++ x ∷ []) (sym is)) ∙ uses-append (take i code) (inst ∷ []) ∙ ap (λ (us : List Use). uses_in (take i code) ++ us) last in
    subst (λ (us : List Use). AddsUses stores us old now) (sym more) (adds_both stores (uses_in (take i code)) (uses_of inst) old mid now one two)

-- the uses in each instruction that writes, or has blocks
pub uses_acc : (inst : Inst) (op : AccOp) (layout field place from : ℕ) (index : List ℕ) (stmt : ℕ) → inst ≡ v.Acc op layout field place from index stmt → uses_of inst ≡ Writes layout field (Acc op) ∷ []
uses_acc inst op layout field place from index stmt is = ap uses_of is ∙ fold-Acc uses_step op layout field place from index stmt

pub uses_own : (inst : Inst) (layout field from stmt : ℕ) → inst ≡ v.OwnWrite layout field from stmt → uses_of inst ≡ Writes layout field Own ∷ []
uses_own inst layout field from stmt is = ap uses_of is ∙ fold-OwnWrite uses_step layout field from stmt

pub uses_if : (inst : Inst) (cond : ℕ) (block otherwise : List Inst) → inst ≡ v.If cond block otherwise → uses_of inst ≡ uses_in block ++ uses_in otherwise
uses_if inst cond block otherwise is =
    ap uses_of is ∙ fold-If uses_step cond block otherwise
    ∙ ap (λ (us : List Use). us ++ flat_map (λ (vs : List Use). vs) (map uses_of otherwise)) (flat_of_map uses_of block) ∙ ap (λ (us : List Use). flat_map uses_of block ++ us) (flat_of_map uses_of otherwise)

pub uses_for : (inst : Inst) (var : ℕ) (lo hi : ℤ) (body : List Inst) → inst ≡ v.For var lo hi body → uses_of inst ≡ uses_in body
uses_for inst var lo hi body is = ap uses_of is ∙ fold-For uses_step var lo hi body ∙ flat_of_map uses_of body

pub adds_as : (stores : List StoreWords) (more other : List Use) (old now : WrittenFields) → more ≡ other → AddsUses stores more old now → AddsUses stores other old now
adds_as stores more other old now is adds = subst (λ (us : List Use). AddsUses stores us old now) is adds

-- an instruction that neither writes nor has blocks
abbrev pub IsQuiet : Inst → Type 0
IsQuiet inst = (layout field : ℕ) (way : Way) → Contains (uses_of inst) (Writes layout field way) → ⊥

abbrev is_write : Use → Bool
is_write (Writes layout field way) = true
is_write (Reads layout field) = false
is_write (ReadsOwn layout field) = false

no_use : (inst : Inst) → uses_of inst ≡ [] → IsQuiet inst
no_use inst is layout field way has = contains_none (Writes layout field way) (subst (λ (us : List Use). Contains us (Writes layout field way)) is has)

one_read : (inst : Inst) (reads : Use) → is_write reads ≡ false → uses_of inst ≡ reads ∷ [] → IsQuiet inst
one_read inst reads read is layout field way has =
    let same = one_use reads (Writes layout field way) (subst (λ (us : List Use). Contains us (Writes layout field way)) is has) in
    let no : true ≡ false = sym (ap is_write same) ∙ read in
    absurd (cc (no))

abbrev NoAcc : Inst → Type 0
NoAcc inst = (op : AccOp) (layout field place from : ℕ) (index : List ℕ) (stmt : ℕ) → inst ≡ v.Acc op layout field place from index stmt → ⊥

abbrev NoOwn : Inst → Type 0
NoOwn inst = (layout field from stmt : ℕ) → inst ≡ v.OwnWrite layout field from stmt → ⊥

abbrev NoIf : Inst → Type 0
NoIf inst = (cond : ℕ) (block otherwise : List Inst) → inst ≡ v.If cond block otherwise → ⊥

abbrev NoFor : Inst → Type 0
NoFor inst = (var : ℕ) (lo hi : ℤ) (body : List Inst) → inst ≡ v.For var lo hi body → ⊥

abbrev Else : Inst → Type 0
Else inst = NoAcc inst → NoOwn inst → NoIf inst → NoFor inst → IsQuiet inst

quiet : (inst : Inst) → Else inst
quiet =
    by_inst Else
    (λ to word na nw ni nf. no_use _ (fold-Const uses_step to word))
    (λ to var na nw ni nf. no_use _ (fold-Var uses_step to var))
    (λ var from na nw ni nf. no_use _ (fold-Set uses_step var from))
    (λ to op given a b na nw ni nf. no_use _ (fold-Bin uses_step to op given a b))
    (λ to op given a na nw ni nf. no_use _ (fold-Un uses_step to op given a))
    (λ to a b s na nw ni nf. no_use _ (fold-Mulq uses_step to a b s))
    (λ to layout na nw ni nf. no_use _ (fold-Root uses_step to layout))
    (λ to place axis extent index na nw ni nf. no_use _ (fold-Check uses_step to place axis extent index))
    (λ to div size from na nw ni nf. no_use _ (fold-Extract uses_step to div size from))
    (λ to high size low na nw ni nf. no_use _ (fold-Offset uses_step to high size low))
    (λ to place node offset na nw ni nf. no_use _ (fold-Child uses_step to place node offset))
    (λ to place node offset na nw ni nf. no_use _ (fold-HashChild uses_step to place node offset))
    (λ to place node offset na nw ni nf. no_use _ (fold-MaskBit uses_step to place node offset))
    (λ to place node offset na nw ni nf. no_use _ (fold-DynCell uses_step to place node offset))
    (λ to place layout field index na nw ni nf. one_read _ (Reads layout field) refl (fold-ReadCell uses_step to place layout field index))
    (λ to place index na nw ni nf. no_use _ (fold-IsActive uses_step to place index))
    (λ to layout field na nw ni nf. one_read _ (ReadsOwn layout field) refl (fold-OwnRead uses_step to layout field))
    (λ layout field from stmt na nw ni nf. absurd (nw layout field from stmt refl))
    (λ op layout field place from index stmt na nw ni nf. absurd (na op layout field place from index stmt refl))
    (λ layout index stmt na nw ni nf. no_use _ (fold-Want uses_step layout index stmt))
    (λ cond block otherwise na nw ni nf. absurd (ni cond block otherwise refl))
    (λ var lo hi body na nw ni nf. absurd (nf var lo hi body refl))

pub adds_quiet : (stores : List StoreWords) (inst : Inst) (fields : WrittenFields) → NoAcc inst → NoOwn inst → NoIf inst → NoFor inst → AddsUses stores (uses_of inst) fields fields
adds_quiet stores inst fields na nw ni nf = λ uses have.
    have_more stores uses (uses_of inst) fields.accumulated.items fields.seats.items fields.owned.items have
    (λ layout field op has active. absurd (quiet inst na nw ni nf layout field (Acc op) has))
    (λ layout field has. absurd (quiet inst na nw ni nf layout field Own has))
