-- What an iteration writes and wants goes by the layouts that it reads, and by those of its places, which are what it asks.
use Rattle.std.proofs.Common.{◌≡◌, ℕ, zero, suc, ◌+◌, ◌*◌, ◌/◌, ◌%◌, ◌^◌, ◌<◌, max, Bool, true, false, ◌==◌, List, [], ◌∷◌, ◌++◌, map, ℤ, Option, Some, None, refl, sym, ap, ◌∙◌, subst, arith}
use Rattle.std.specs.Prelude.{if◌then◌else◌, fold, nat_lt, Contains, IfSome, slice_get}
use Rattle.std.specs.List.{flat_map, list_any}
use Rattle.std.proofs.lemmas.List.Elements.{Contains-append_left, Contains-append_right}
use Rattle.sg_words.specs.declared.operators.Ty.TheVariants as ty
use Rattle.sg_words.specs.Words.{number, applied, applied_un, flag, mulq_of, word_of}
use Rattle.sg_words.proofs.Uses.{contains_head}
use Rattle.sg_coord.specs.declared.coord.Coord.{Coord}
use Rattle.sg_coord.specs.Coord.{is_on_axis}
use Rattle.sg_layout.specs.declared.shape.NodeShape.{NodeShape}
use Rattle.sg_layout.specs.declared.shape.Shape.{Shape}
use Rattle.sg_layout.specs.Axes.{size_of}
use Rattle.sg_flat.specs.declared.effects.Way.TheVariants.{Own, Acc}
use Rattle.sg_flat.specs.declared.state.FlatLayout.{FlatLayout}
use Rattle.sg_flat.specs.declared.state.FlatState.{FlatState}
use Rattle.sg_flat.specs.State.{value_or_zero}
use Rattle.sg_flat.specs.State as flat
use Rattle.sg_flat.specs.Domain.{active_in, same_coord, numbers}
use Rattle.sg_ir.specs.declared.code.Inst.{Inst, out-Inst, roll-Inst, roll-out-Inst}
use Rattle.sg_ir.specs.declared.code.Inst.TheVariants.{rolls-Const, rolls-Var, rolls-Set, rolls-Bin, rolls-Un, rolls-Mulq, rolls-Root, rolls-Check, rolls-Extract, rolls-Offset, rolls-Child, rolls-HashChild, rolls-MaskBit, rolls-DynCell, rolls-ReadCell, rolls-IsActive, rolls-OwnRead, rolls-OwnWrite, rolls-Acc, rolls-Want, rolls-If, rolls-For}
use Rattle.sg_ir.specs.declared.code.Inst.TheOpen as i
use Rattle.sg_ir.specs.declared.code.Inst.TheOpen.{Inst-F}
use Rattle.sg_ir.specs.Runs.{Seen, Moved, Place, CodeWrite, CodeWant, InstAction, actions_in_turn, add_offset, at_of, cell_value, check, coord_of, does, down, inst_step, is_active_place, iteration, iteration_start, node_of, own_write, value_or_own, put, set_place, set_reg, set_var_word}
use Rattle.sg_ir.specs.Apt.{Use, Writes, Reads, ReadsOwn, uses_step, uses_in}
use Rattle.sg_ir.specs.Touches.{AreSameFor, ReadsDecide, rooted_step, rooted_by}
use Rattle.sg_ir.proofs.Folds.{fold-Const, fold-Var, fold-Set, fold-Bin, fold-Un, fold-Mulq, fold-Root, fold-Check, fold-Extract, fold-Offset, fold-Child, fold-HashChild, fold-MaskBit, fold-DynCell, fold-ReadCell, fold-IsActive, fold-OwnRead, fold-OwnWrite, fold-Acc, fold-Want, fold-If, fold-For}
use Rattle.sg_ir.proofs.Chained.{largest, depth_step, depth}
use Rattle.sg_ir.specs.declared.code.Inst.{fold-Inst}

-- the uses in an instruction
abbrev uses_of : Inst → List Use
uses_of = fold-Inst (List Use) uses_step

-- two runs are as far, word by word, and told the same; and something holds of the layout of each place
record AreAlike (Holds : ℕ → Type 0) (one other : Moved) : Type 0 where
  at : (place : ℕ) → IfSome (one.places place) (λ there. Holds there.layout)
  regs : (reg : ℕ) → one.regs reg ≡ other.regs reg
  places : (place : ℕ) → one.places place ≡ other.places place
  vars : (var : ℕ) → one.vars var ≡ other.vars var
  writes : one.writes ≡ other.writes
  wants : one.wants ≡ other.wants

put_alike : {A : Type 0} (to : ℕ) (x y : A) (f g : ℕ → A) → x ≡ y → ((k : ℕ) → f k ≡ g k) → (k : ℕ) → put to x f k ≡ put to y g k
put_alike {A} to x y f g same rest k = by_test (k == to)
  where
    by_test : (test : Bool) → (if test then x else f k) ≡ (if test then y else g k)
    by_test true = same
    by_test false = rest k

reg_alike : {Holds : ℕ → Type 0} (to x y : ℕ) (one other : Moved) → x ≡ y → AreAlike Holds one other → AreAlike Holds (set_reg to x one) (set_reg to y other)
reg_alike to x y one other same is = record {
  at = is.at;
  regs = put_alike to x y one.regs other.regs same is.regs;
  places = is.places;
  vars = is.vars;
  writes = is.writes;
  wants = is.wants;
}

var_alike : {Holds : ℕ → Type 0} (var x y : ℕ) (one other : Moved) → x ≡ y → AreAlike Holds one other → AreAlike Holds (set_var_word var x one) (set_var_word var y other)
var_alike var x y one other same is = record {
  at = is.at;
  regs = is.regs;
  places = is.places;
  vars = put_alike var x y one.vars other.vars same is.vars;
  writes = is.writes;
  wants = is.wants;
}

put_holds : (Holds : ℕ → Type 0) (to : ℕ) (x : Option Place) (f : ℕ → Option Place) → IfSome x (λ there. Holds there.layout) → ((k : ℕ) → IfSome (f k) (λ there. Holds there.layout))
    → (k : ℕ) → IfSome (put to x f k) (λ there. Holds there.layout)
put_holds Holds to x f new rest k = by_test (k == to)
  where
    by_test : (test : Bool) → IfSome (if test then x else f k) (λ there. Holds there.layout)
    by_test true = new
    by_test false = rest k

place_alike : {Holds : ℕ → Type 0} (to root root' : ℕ) (x y : Option Place) (one other : Moved) → x ≡ y → IfSome x (λ there. Holds there.layout) → AreAlike Holds one other
    → AreAlike Holds (set_place to root x one) (set_place to root' y other)
place_alike {Holds} to root root' x y one other same held is = record {
  at = put_holds Holds to x one.places held is.at;
  regs = is.regs;
  places = put_alike to x y one.places other.places same is.places;
  vars = is.vars;
  writes = is.writes;
  wants = is.wants;
}

test_holds : (Holds : ℕ → Type 0) (test : Bool) (place : Option Place) → IfSome place (λ there. Holds there.layout) → IfSome (if test then place else None) (λ there. Holds there.layout)
test_holds Holds true place held = held
test_holds Holds false place held = tt

-- a check and a step down stay in the layout of their place
check_holds : (Holds : ℕ → Type 0) (extent word : ℕ) (place : Option Place) → IfSome place (λ there. Holds there.layout) → IfSome (check extent word place) (λ there. Holds there.layout)
check_holds Holds extent word place held = test_holds Holds (is_on_axis extent (number ty.I32 word)) place held

offset_holds : (Holds : ℕ → Type 0) (offset : ℕ) (place : Place) (node : Option NodeShape) → Holds place.layout → IfSome (add_offset offset place node) (λ there. Holds there.layout)
offset_holds Holds offset place None held = tt
offset_holds Holds offset place (Some node) held =
    let after : Option Place = Some (record { layout = place.layout; path = place.path ++ offset ∷ [] }) in
    test_holds Holds (nat_lt offset (size_of node.sizes)) after held

down_holds : (Holds : ℕ → Type 0) (shapes : List Shape) (node offset : ℕ) (place : Option Place) → IfSome place (λ there. Holds there.layout) → IfSome (down shapes node offset place) (λ there. Holds there.layout)
down_holds Holds shapes node offset None held = tt
down_holds Holds shapes node offset (Some there) held = offset_holds Holds offset there (node_of shapes there.layout node) held

same_map : (f g : ℕ → ℕ) (xs : List ℕ) → ((k : ℕ) → f k ≡ g k) → map f xs ≡ map g xs
same_map f g [] same = refl
same_map f g (x ∷ xs) same = ap (λ (y : ℕ). y ∷ map f xs) (same x) ∙ ap (λ (ys : List ℕ). g x ∷ ys) (same_map f g xs same)

flat_of_map : {X Y : Type 0} (f : X → List Y) (xs : List X) → flat_map (λ (ys : List Y). ys) (map f xs) ≡ flat_map f xs
flat_of_map f [] = refl
flat_of_map {X} {Y} f (x ∷ xs) = ap (λ (ys : List Y). f x ++ ys) (flat_of_map f xs)

module _ (shapes : List Shape) (left right : FlatState) (at : Coord) where
  abbrev first : Seen
  first = record { shapes = shapes; state = left; at = at }

  abbrev second : Seen
  second = record { shapes = shapes; state = right; at = at }

  abbrev SameAt : ℕ → Type 0
  SameAt layout = slice_get left.layouts layout ≡ slice_get right.layouts layout

  abbrev Alike : Moved → Moved → Type 0
  Alike one other = AreAlike SameAt one other

  -- the states have the same layouts for these uses, and where these layouts are
  abbrev AreSame : List Use → List ℕ → Type 0
  AreSame uses roots = ((it : Use) → Contains uses it → AreSameFor left right it) × ((layout : ℕ) → Contains roots layout → SameAt layout)

  same_front : (uses more : List Use) (roots others : List ℕ) → AreSame (uses ++ more) (roots ++ others) → AreSame uses roots
  same_front uses more roots others same = (λ it has. same.0 it (Contains-append_left uses more it has), λ layout has. same.1 layout (Contains-append_left roots others layout has))

  same_behind : (uses more : List Use) (roots others : List ℕ) → AreSame (uses ++ more) (roots ++ others) → AreSame more others
  same_behind uses more roots others same = (λ it has. same.0 it (Contains-append_right uses more it has), λ layout has. same.1 layout (Contains-append_right roots others layout has))

  -- two actions, one at each state, leave runs alike
  abbrev KeepAlike : List Use → List ℕ → InstAction → InstAction → Type 0
  KeepAlike uses roots act act' = AreSame uses roots → (one other : Moved) → Alike one other → Alike (act one) (act' other)

  abbrev KeepsAlike : Inst → Type 0
  KeepsAlike inst = KeepAlike (uses_of inst) (rooted_by inst) (does first inst) (does second inst)

  made : (inst : Inst) (uses : List Use) (roots : List ℕ) (act act' : InstAction) → uses_of inst ≡ uses → rooted_by inst ≡ roots → does first inst ≡ act → does second inst ≡ act'
      → KeepAlike uses roots act act' → KeepsAlike inst
  made inst uses roots act act' same same' is is' keep =
      subst (λ (them : List Use). KeepAlike them (rooted_by inst) (does first inst) (does second inst)) (sym same)
      (subst (λ (them : List ℕ). KeepAlike uses them (does first inst) (does second inst)) (sym same')
      (subst (λ (it : InstAction). KeepAlike uses roots it (does second inst)) (sym is) (subst (λ (it : InstAction). KeepAlike uses roots act it) (sym is') keep)))

  -- where nothing is asked of the roots
  leaf : (inst : Inst) (uses : List Use) (act act' : InstAction) → uses_of inst ≡ uses → does first inst ≡ act → does second inst ≡ act'
      → (((it : Use) → Contains uses it → AreSameFor left right it) → (one other : Moved) → Alike one other → Alike (act one) (act' other)) → KeepsAlike inst
  leaf inst uses act act' same is is' keep =
      made inst uses (rooted_by inst) act act' same refl is is' (λ them. keep them.0)

  goes_down : (to place node offset : ℕ) (one other : Moved) → Alike one other
      → Alike (set_place to (one.roots place) (down shapes node (one.regs offset) (one.places place)) one)
      (set_place to (other.roots place) (down shapes node (other.regs offset) (other.places place)) other)
  goes_down to place node offset one other is =
      place_alike to _ _ _ _ one other
      (ap (λ (w : ℕ). down shapes node w (one.places place)) (is.regs offset) ∙ ap (λ (p : Option Place). down shapes node (other.regs offset) p) (is.places place))
      (down_holds SameAt shapes node (one.regs offset) (one.places place) (is.at place)) is

  same_value : (layout field : ℕ) (there : Coord) → slice_get left.layouts layout ≡ slice_get right.layouts layout → flat.value_of shapes left layout field there ≡ flat.value_of shapes right layout field there
  same_value layout field there same = ap (λ (it : Option FlatLayout). value_or_zero (slice_get shapes layout) it field there) same

  same_cell : (layout field : ℕ) (there : Option Coord) → slice_get left.layouts layout ≡ slice_get right.layouts layout → cell_value first layout field there ≡ cell_value second layout field there
  same_cell layout field None same = refl
  same_cell layout field (Some there) same = same_value layout field there same

  same_active : (there : Option Coord) (place : Option Place) → IfSome place (λ it. SameAt it.layout) → is_active_place first there place ≡ is_active_place second there place
  same_active None place same = refl
  same_active (Some at') None same = refl
  same_active (Some at') (Some it) same = ap (λ (found : Option FlatLayout). list_any (same_coord at') (active_in found)) same

  abbrev Listed : List Inst → Type 0
  Listed insts = KeepAlike (flat_map uses_of insts) (flat_map rooted_by insts) (actions_in_turn (map (does first) insts)) (actions_in_turn (map (does second) insts))

  by_list : (n : ℕ) → ((inst : Inst) → depth inst < n → KeepsAlike inst) → (insts : List Inst) → largest (map depth insts) < n → Listed insts
  by_list n each [] below same one other is = is
  by_list n each (inst ∷ insts) below same one other is =
      by_list n each insts (omega (arith, below)) (same_behind (uses_of inst) (flat_map uses_of insts) (rooted_by inst) (flat_map rooted_by insts) same) (does first inst one) (does second inst other)
      (each inst (omega (arith, below)) (same_front (uses_of inst) (flat_map uses_of insts) (rooted_by inst) (flat_map rooted_by insts) same) one other is)

  by_branch : (s t : Bool) (taken left_out : List Inst) (one other : Moved) → s ≡ t
      → Alike (actions_in_turn (map (does first) taken) one) (actions_in_turn (map (does second) taken) other) → Alike (actions_in_turn (map (does first) left_out) one) (actions_in_turn (map (does second) left_out) other)
      → Alike (actions_in_turn (if s then map (does first) left_out else map (does first) taken) one) (actions_in_turn (if t then map (does second) left_out else map (does second) taken) other)
  by_branch true true taken left_out one other same p q = q
  by_branch false false taken left_out one other same p q = p
  by_branch true false taken left_out one other same p q = absurd (cc (same))
  by_branch false true taken left_out one other same p q = absurd (cc (same))

  by_if : (cond : ℕ) (block otherwise : List Inst) → Listed block → Listed otherwise
      → KeepAlike (flat_map uses_of block ++ flat_map uses_of otherwise) (flat_map rooted_by block ++ flat_map rooted_by otherwise) (inst_step first (i.If cond (map (does first) block) (map (does first) otherwise)))
      (inst_step second (i.If cond (map (does second) block) (map (does second) otherwise)))
  by_if cond block otherwise taken left_out same one other is =
      by_branch (one.regs cond == 0) (other.regs cond == 0) block otherwise one other (ap (λ (w : ℕ). w == 0) (is.regs cond))
      (taken (same_front (flat_map uses_of block) (flat_map uses_of otherwise) (flat_map rooted_by block) (flat_map rooted_by otherwise) same) one other is)
      (left_out (same_behind (flat_map uses_of block) (flat_map uses_of otherwise) (flat_map rooted_by block) (flat_map rooted_by otherwise) same) one other is)

  by_for : (var : ℕ) (lo hi : ℤ) (body : List Inst) → Listed body → KeepAlike (flat_map uses_of body) (flat_map rooted_by body) (inst_step first (i.For var lo hi (map (does first) body))) (inst_step second (i.For var lo hi (map (does second) body)))
  by_for var lo hi body each same one other is = turns (numbers lo hi) one other is
    where
      turns : (zs : List ℤ) (a b : Moved) → Alike a b
          → Alike (fold (λ (reached : Moved) (turn : ℤ). actions_in_turn (map (does first) body) (set_var_word var (word_of turn) reached)) a zs)
          (fold (λ (reached : Moved) (turn : ℤ). actions_in_turn (map (does second) body) (set_var_word var (word_of turn) reached)) b zs)
      turns [] a b alike = alike
      turns (z ∷ zs) a b alike =
          turns zs (actions_in_turn (map (does first) body) (set_var_word var (word_of z) a)) (actions_in_turn (map (does second) body) (set_var_word var (word_of z) b))
          (each same (set_var_word var (word_of z) a) (set_var_word var (word_of z) b) (var_alike var (word_of z) (word_of z) a b refl alike))

  module _ (n : ℕ) (each : (insts : List Inst) → largest (map depth insts) < n → Listed insts) where
    abbrev Deep : Inst → Type 0
    Deep inst = depth inst < suc n → KeepsAlike inst

    by_layer : (layer : Inst-F Inst) → Deep (roll-Inst layer)
    by_layer (i.Const to word) = rw (rolls-Const to word) (λ below. leaf _ [] _ _ (fold-Const uses_step to word) (fold-Const (inst_step first) to word) (fold-Const (inst_step second) to word)
        (λ same one other is. reg_alike to word word one other refl is))
    by_layer (i.Var to var) = rw (rolls-Var to var) (λ below. leaf _ [] _ _ (fold-Var uses_step to var) (fold-Var (inst_step first) to var) (fold-Var (inst_step second) to var)
        (λ same one other is. reg_alike to _ _ one other (is.vars var) is))
    by_layer (i.Set var from) = rw (rolls-Set var from) (λ below. leaf _ [] _ _ (fold-Set uses_step var from) (fold-Set (inst_step first) var from) (fold-Set (inst_step second) var from)
        (λ same one other is. var_alike var _ _ one other (is.regs from) is))
    by_layer (i.Bin to how given a b) = rw (rolls-Bin to how given a b) (λ below. leaf _ [] _ _ (fold-Bin uses_step to how given a b) (fold-Bin (inst_step first) to how given a b) (fold-Bin (inst_step second) to how given a b)
        (λ same one other is. reg_alike to _ _ one other (ap (λ (w : ℕ). applied how given w (one.regs b)) (is.regs a) ∙ ap (λ (w : ℕ). applied how given (other.regs a) w) (is.regs b)) is))
    by_layer (i.Un to how given a) = rw (rolls-Un to how given a) (λ below. leaf _ [] _ _ (fold-Un uses_step to how given a) (fold-Un (inst_step first) to how given a) (fold-Un (inst_step second) to how given a)
        (λ same one other is. reg_alike to _ _ one other (ap (λ (w : ℕ). applied_un how w) (is.regs a)) is))
    by_layer (i.Mulq to a b s) = rw (rolls-Mulq to a b s) (λ below. leaf _ [] _ _ (fold-Mulq uses_step to a b s) (fold-Mulq (inst_step first) to a b s) (fold-Mulq (inst_step second) to a b s)
        (λ same one other is. reg_alike to _ _ one other
        (ap (λ (w : ℕ). mulq_of w (one.regs b) (one.regs s)) (is.regs a) ∙ ap (λ (w : ℕ). mulq_of (other.regs a) w (one.regs s)) (is.regs b) ∙ ap (λ (w : ℕ). mulq_of (other.regs a) (other.regs b) w) (is.regs s)) is))
    by_layer (i.Root to layout) = rw (rolls-Root to layout) (λ below. made _ [] (layout ∷ []) _ _ (fold-Root uses_step to layout) (fold-Root rooted_step to layout) (fold-Root (inst_step first) to layout) (fold-Root (inst_step second) to layout)
        (λ same one other is. place_alike to _ _ _ _ one other refl (same.1 layout (contains_head layout layout [] refl)) is))
    by_layer (i.Check to place axis extent index) = rw (rolls-Check to place axis extent index) (λ below. leaf _ [] _ _ (fold-Check uses_step to place axis extent index) (fold-Check (inst_step first) to place axis extent index) (fold-Check (inst_step second) to place axis extent index)
        (λ same one other is. place_alike to _ _ _ _ one other (ap (λ (w : ℕ). check extent w (one.places place)) (is.regs index) ∙ ap (λ (p : Option Place). check extent (other.regs index) p) (is.places place))
        (check_holds SameAt extent (one.regs index) (one.places place) (is.at place)) is))
    by_layer (i.Extract to div size from) = rw (rolls-Extract to div size from) (λ below. leaf _ [] _ _ (fold-Extract uses_step to div size from) (fold-Extract (inst_step first) to div size from) (fold-Extract (inst_step second) to div size from)
        (λ same one other is. reg_alike to _ _ one other (ap (λ (w : ℕ). w / div % size) (is.regs from)) is))
    by_layer (i.Offset to high size low) = rw (rolls-Offset to high size low) (λ below. leaf _ [] _ _ (fold-Offset uses_step to high size low) (fold-Offset (inst_step first) to high size low) (fold-Offset (inst_step second) to high size low)
        (λ same one other is. reg_alike to _ _ one other
        (ap (λ (w : ℕ). (w * size + one.regs low) % 2 ^ 32) (is.regs high) ∙ ap (λ (w : ℕ). (other.regs high * size + w) % 2 ^ 32) (is.regs low)) is))
    by_layer (i.Child to place node offset) = rw (rolls-Child to place node offset) (λ below. leaf _ [] _ _ (fold-Child uses_step to place node offset) (fold-Child (inst_step first) to place node offset) (fold-Child (inst_step second) to place node offset)
        (λ same one other is. goes_down to place node offset one other is))
    by_layer (i.HashChild to place node offset) = rw (rolls-HashChild to place node offset) (λ below. leaf _ [] _ _ (fold-HashChild uses_step to place node offset) (fold-HashChild (inst_step first) to place node offset) (fold-HashChild (inst_step second) to place node offset)
        (λ same one other is. goes_down to place node offset one other is))
    by_layer (i.MaskBit to place node offset) = rw (rolls-MaskBit to place node offset) (λ below. leaf _ [] _ _ (fold-MaskBit uses_step to place node offset) (fold-MaskBit (inst_step first) to place node offset) (fold-MaskBit (inst_step second) to place node offset)
        (λ same one other is. goes_down to place node offset one other is))
    by_layer (i.DynCell to place node offset) = rw (rolls-DynCell to place node offset) (λ below. leaf _ [] _ _ (fold-DynCell uses_step to place node offset) (fold-DynCell (inst_step first) to place node offset) (fold-DynCell (inst_step second) to place node offset)
        (λ same one other is. goes_down to place node offset one other is))
    by_layer (i.ReadCell to place layout field index) = rw (rolls-ReadCell to place layout field index)
        (λ below. leaf _ (Reads layout field ∷ []) _ _ (fold-ReadCell uses_step to place layout field index) (fold-ReadCell (inst_step first) to place layout field index) (fold-ReadCell (inst_step second) to place layout field index)
        (λ same one other is. record {
          at = is.at;
          regs = put_alike to _ _ one.regs other.regs
              (same_cell layout field (at_of shapes (one.places place)) (same (Reads layout field) (contains_head (Reads layout field) (Reads layout field) [] refl))
              ∙ ap (λ (p : Option Place). cell_value second layout field (at_of shapes p)) (is.places place)) is.regs;
          places = is.places;
          vars = is.vars;
          writes = is.writes;
          wants = is.wants;
        }))
    by_layer (i.IsActive to place index) = rw (rolls-IsActive to place index)
        (λ below. leaf _ [] _ _ (fold-IsActive uses_step to place index) (fold-IsActive (inst_step first) to place index) (fold-IsActive (inst_step second) to place index)
        (λ same one other is. record {
          at = is.at;
          regs = put_alike to _ _ one.regs other.regs
              (ap flag (same_active (at_of shapes (one.places place)) (one.places place) (is.at place))
              ∙ ap (λ (p : Option Place). flag (is_active_place second (at_of shapes p) p)) (is.places place)) is.regs;
          places = is.places;
          vars = is.vars;
          writes = is.writes;
          wants = is.wants;
        }))
    by_layer (i.OwnRead to layout field) = rw (rolls-OwnRead to layout field)
        (λ below. leaf _ (ReadsOwn layout field ∷ []) _ _ (fold-OwnRead uses_step to layout field) (fold-OwnRead (inst_step first) to layout field) (fold-OwnRead (inst_step second) to layout field)
        (λ same one other is. reg_alike to _ _ one other
        (ap (λ (ws : List CodeWrite). value_or_own (own_write layout field ws) (flat.value_of shapes left layout field at)) is.writes
        ∙ ap (value_or_own (own_write layout field other.writes)) (same_value layout field at (same (ReadsOwn layout field) (contains_head (ReadsOwn layout field) (ReadsOwn layout field) [] refl)))) is))
    by_layer (i.OwnWrite layout field from stmt) = rw (rolls-OwnWrite layout field from stmt)
        (λ below. leaf _ (Writes layout field Own ∷ []) _ _ (fold-OwnWrite uses_step layout field from stmt) (fold-OwnWrite (inst_step first) layout field from stmt) (fold-OwnWrite (inst_step second) layout field from stmt)
        (λ same one other is. record {
          at = is.at;
          regs = is.regs;
          places = is.places;
          vars = is.vars;
          writes = ap (λ (ws : List CodeWrite). ws ++ (record { layout = layout; field = field; stmt = stmt; at = Some at; way = Own; value = one.regs from }) ∷ []) is.writes
              ∙ ap (λ (w : ℕ). other.writes ++ (record { layout = layout; field = field; stmt = stmt; at = Some at; way = Own; value = w }) ∷ []) (is.regs from);
          wants = is.wants;
        }))
    by_layer (i.Acc how layout field place from index stmt) = rw (rolls-Acc how layout field place from index stmt)
        (λ below. leaf _ (Writes layout field (Acc how) ∷ []) _ _ (fold-Acc uses_step how layout field place from index stmt) (fold-Acc (inst_step first) how layout field place from index stmt) (fold-Acc (inst_step second) how layout field place from index stmt)
        (λ same one other is. record {
          at = is.at;
          regs = is.regs;
          places = is.places;
          vars = is.vars;
          writes = ap (λ (ws : List CodeWrite). ws ++ (record { layout = layout; field = field; stmt = stmt; at = at_of shapes (one.places place); way = Acc how; value = one.regs from }) ∷ []) is.writes
              ∙ ap (λ (p : Option Place). other.writes ++ (record { layout = layout; field = field; stmt = stmt; at = at_of shapes p; way = Acc how; value = one.regs from }) ∷ []) (is.places place)
              ∙ ap (λ (w : ℕ). other.writes ++ (record { layout = layout; field = field; stmt = stmt; at = at_of shapes (other.places place); way = Acc how; value = w }) ∷ []) (is.regs from);
          wants = is.wants;
        }))
    by_layer (i.Want layout index stmt) = rw (rolls-Want layout index stmt)
        (λ below. leaf _ [] _ _ (fold-Want uses_step layout index stmt) (fold-Want (inst_step first) layout index stmt) (fold-Want (inst_step second) layout index stmt)
        (λ same one other is. record {
          at = is.at;
          regs = is.regs;
          places = is.places;
          vars = is.vars;
          writes = is.writes;
          wants = ap (λ (ws : List CodeWant). ws ++ (record { layout = layout; stmt = stmt; at = coord_of (map one.regs index) }) ∷ []) is.wants
              ∙ ap (λ (ws : List ℕ). other.wants ++ (record { layout = layout; stmt = stmt; at = coord_of ws }) ∷ []) (same_map one.regs other.regs index is.regs);
        }))
    by_layer (i.If cond block otherwise) = rw (rolls-If cond block otherwise) (λ below.
        let under : suc (max (largest (map depth block)) (largest (map depth otherwise))) < suc n = subst (λ (k : ℕ). k < suc n) (fold-If depth_step cond block otherwise) below in
        made _ (flat_map uses_of block ++ flat_map uses_of otherwise) (flat_map rooted_by block ++ flat_map rooted_by otherwise) _ _
        (fold-If uses_step cond block otherwise ∙ ap (λ (us : List Use). us ++ flat_map (λ (vs : List Use). vs) (map uses_of otherwise)) (flat_of_map uses_of block) ∙ ap (λ (us : List Use). flat_map uses_of block ++ us) (flat_of_map uses_of otherwise))
        (fold-If rooted_step cond block otherwise ∙ ap (λ (ls : List ℕ). ls ++ flat_map (λ (ms : List ℕ). ms) (map rooted_by otherwise)) (flat_of_map rooted_by block)
        ∙ ap (λ (ls : List ℕ). flat_map rooted_by block ++ ls) (flat_of_map rooted_by otherwise))
        (fold-If (inst_step first) cond block otherwise) (fold-If (inst_step second) cond block otherwise)
        (by_if cond block otherwise (each block (omega (arith, under))) (each otherwise (omega (arith, under)))))
    by_layer (i.For var lo hi body) = rw (rolls-For var lo hi body) (λ below.
        let under : suc (largest (map depth body)) < suc n = subst (λ (k : ℕ). k < suc n) (fold-For depth_step var lo hi body) below in
        made _ (flat_map uses_of body) (flat_map rooted_by body) _ _ (fold-For uses_step var lo hi body ∙ flat_of_map uses_of body) (fold-For rooted_step var lo hi body ∙ flat_of_map rooted_by body)
        (fold-For (inst_step first) var lo hi body) (fold-For (inst_step second) var lo hi body)
        (by_for var lo hi body (each body (omega (arith, under)))))

    deeper : (inst : Inst) → Deep inst
    deeper inst = rw (← roll-out-Inst inst) (by_layer (out-Inst inst))

  by_depth : (n : ℕ) (inst : Inst) → depth inst < n → KeepsAlike inst
  by_depth zero inst below = absurd (omega (arith, below))
  by_depth (suc n) inst below = deeper n (by_list n (by_depth n)) inst below

  alike : (block : List Inst) → AreSame (uses_in block) (flat_map rooted_by block) → Alike (iteration first block) (iteration second block)
  alike block same =
      by_list (suc (largest (map depth block))) (by_depth (suc (largest (map depth block)))) block (omega arith) same (iteration_start first) (iteration_start second)
      (record { at = λ place. tt; regs = λ reg. refl; places = λ place. refl; vars = λ var. refl; writes = refl; wants = refl })

pub reads_decide : ReadsDecide
reads_decide shapes block one other same rooted at = let is = alike shapes one other at block (same, rooted) in (is.writes, is.wants)
