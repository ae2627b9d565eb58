-- Instructions and blocks that read nothing of a point leave runs alike that differ in their points.
use Rattle.std.proofs.Common.{◌≡◌, ℕ, suc, ◌+◌, ◌*◌, ◌/◌, ◌%◌, ◌^◌, ◌<◌, ◌≤◌, drop-cons, add-one, Bool, true, false, ℤ, List, [], ◌∷◌, ◌++◌, map, length, drop, get_or, fold, Option, Some, None, refl, sym, ap, ◌∙◌, subst}
use Rattle.std.specs.Prelude.{◌==◌, if◌then◌else◌}
use Rattle.std.proofs.lemmas.Bool.{ltb-false}
use Rattle.std.proofs.lemmas.List.{drop_all}
use Rattle.sg_words.specs.Words.{applied, applied_un, mulq_of, word_of, flag}
use Rattle.sg_coord.specs.declared.coord.Coord.{Coord}
use Rattle.sg_layout.specs.declared.shape.Shape.{Shape}
use Rattle.sg_flat.specs.declared.state.FlatState.{FlatState}
use Rattle.sg_flat.specs.Domain.{numbers}
use Rattle.sg_ir.specs.declared.code.Inst.{Inst}
use Rattle.sg_ir.specs.declared.code.Inst.TheVariants as v
use Rattle.sg_ir.specs.declared.code.Inst.TheOpen as i
use Rattle.sg_ir.specs.Runs.{Seen, Moved, Place, CodeWant, InstAction, actions_in_turn, at_of, cell_value, is_active_place, check, coord_of, does, down, inst_step, put, set_place, set_reg, set_var_word}
use Rattle.sg_ir.proofs.Uses.{by_inst, fold-Const, fold-Var, fold-Set, fold-Bin, fold-Un, fold-Mulq, fold-Root, fold-Check, fold-Extract, fold-Offset, fold-Child, fold-HashChild, fold-MaskBit, fold-DynCell, fold-ReadCell, fold-IsActive, fold-OwnRead, fold-OwnWrite, fold-Acc, fold-Want, fold-If, fold-For}
use Rattle.sg_ir.proofs.Uses.{does-Const, does-Var, does-Set, does-Bin, does-Un, does-Mulq, does-Root, does-Check, does-Extract, does-Offset, does-Child, does-HashChild, does-MaskBit, does-DynCell, does-ReadCell, does-IsActive, does-OwnWrite, does-Acc, does-Want, does-If, does-For}
use Rattle.sg_exec.specs.Running.{seen_at}
use Rattle.sg_exec.specs.steps.Alike.{reads_point, reads_step, AreAlike, BlockIsAlike, InstIsAlike}

-- ---- instructions

put_alike : {A : Type 0} (to : ℕ) (x y : A) (f g : ℕ → A) → x ≡ y → (k : ℕ) → f k ≡ g k → put to x f k ≡ put to y g k
put_alike {A} to x y f g same k rest = by_test (k == to)
  where
    by_test : (test : Bool) → (if test then x else f k) ≡ (if test then y else g k)
    by_test true = same
    by_test false = rest

reg_alike : (to x y : ℕ) (one other : Moved) → x ≡ y → AreAlike one other → AreAlike (set_reg to x one) (set_reg to y other)
reg_alike to x y one other same is = record {
  regs = λ k. put_alike to x y one.regs other.regs same k (is.regs k);
  vars = is.vars;
  places = is.places;
  wants = is.wants;
}

var_alike : (var x y : ℕ) (one other : Moved) → x ≡ y → AreAlike one other → AreAlike (set_var_word var x one) (set_var_word var y other)
var_alike var x y one other same is = record {
  regs = is.regs;
  vars = λ k later. put_alike var x y one.vars other.vars same k (is.vars k later);
  places = is.places;
  wants = is.wants;
}

place_alike : (to m n : ℕ) (x y : Option Place) (one other : Moved) → x ≡ y → AreAlike one other → AreAlike (set_place to m x one) (set_place to n y other)
place_alike to m n x y one other same is = record {
  regs = is.regs;
  vars = is.vars;
  places = λ k. put_alike to x y one.places other.places same k (is.places k);
  wants = is.wants;
}

same_map : (f g : ℕ → ℕ) (xs : List ℕ) → ((k : ℕ) → f k ≡ g k) → map f xs ≡ map g xs
same_map f g [] same = refl
same_map f g (x ∷ xs) same = ap (λ (y : ℕ). y ∷ map f xs) (same x) ∙ ap (λ (ys : List ℕ). g x ∷ ys) (same_map f g xs same)

same_value : (shapes : List Shape) (state : FlatState) (at there : Coord) (layout field : ℕ) (found : Option Coord)
    → cell_value (seen_at shapes state at) layout field found ≡ cell_value (seen_at shapes state there) layout field found
same_value shapes state at there layout field None = refl
same_value shapes state at there layout field (Some cell) = refl

same_activity : (shapes : List Shape) (state : FlatState) (at there : Coord) (found : Option Coord) (place : Option Place)
    → flag (is_active_place (seen_at shapes state at) found place) ≡ flag (is_active_place (seen_at shapes state there) found place)
same_activity shapes state at there None place = refl
same_activity shapes state at there (Some cell) None = refl
same_activity shapes state at there (Some cell) (Some spot) = refl

moved_alike : (a b one other : Moved) → a ≡ one → b ≡ other → AreAlike one other → AreAlike a b
moved_alike a b one other is is' alike = subst (λ (m : Moved). AreAlike m b) (sym is) (subst (λ (m : Moved). AreAlike one m) (sym is') alike)

abbrev KeepsAlike : (Seen → InstAction) → Type 0
KeepsAlike act = (shapes : List Shape) (state : FlatState) (at there : Coord) (one other : Moved) → AreAlike one other → AreAlike (act (seen_at shapes state at) one) (act (seen_at shapes state there) other)

abbrev Pointless : Inst → Type 0
Pointless inst = reads_point inst ≡ false → InstIsAlike inst

leaf : (inst : Inst) (test : Bool) (act : Seen → InstAction) → reads_point inst ≡ test → ((seen : Seen) (now : Moved) → does seen inst now ≡ act seen now) → (test ≡ false → KeepsAlike act) → Pointless inst
leaf inst test act same is keeps none shapes state at there one other alike =
    moved_alike _ _ _ _ (is (seen_at shapes state at) one) (is (seen_at shapes state there) other) (keeps (sym same ∙ none) shapes state at there one other alike)

goes_down : (to place node offset : ℕ) (shapes : List Shape) (one other : Moved) → AreAlike one other
    → AreAlike (set_place to (one.roots place) (down shapes node (one.regs offset) (one.places place)) one) (set_place to (other.roots place) (down shapes node (other.regs offset) (other.places place)) other)
goes_down to place node offset shapes one other is =
    place_alike to _ _ _ _ one other
    (ap (λ (w : ℕ). down shapes node w (one.places place)) (is.regs offset) ∙ ap (λ (p : Option Place). down shapes node (other.regs offset) p) (is.places place)) is

pub pointless_alike : (inst : Inst) → Pointless inst
pointless_alike = by_inst Pointless
    (λ to word. leaf _ _ (λ seen. inst_step seen (i.Const to word)) (fold-Const reads_step to word) (λ seen now. does-Const seen to word now)
    (λ test shapes state at there one other is. reg_alike to word word one other refl is))
    (λ to var. leaf _ _ (λ seen. inst_step seen (i.Var to var)) (fold-Var reads_step to var) (λ seen now. does-Var seen to var now)
    (λ test shapes state at there one other is. reg_alike to _ _ one other (is.vars var (ltb-false var 3 test)) is))
    (λ var from. leaf _ _ (λ seen. inst_step seen (i.Set var from)) (fold-Set reads_step var from) (λ seen now. does-Set seen var from now)
    (λ test shapes state at there one other is. var_alike var _ _ one other (is.regs from) is))
    (λ to op given a b. leaf _ _ (λ seen. inst_step seen (i.Bin to op given a b)) (fold-Bin reads_step to op given a b) (λ seen now. does-Bin seen to op given a b now)
    (λ test shapes state at there one other is. reg_alike to _ _ one other (ap (λ (w : ℕ). applied op given w (one.regs b)) (is.regs a) ∙ ap (λ (w : ℕ). applied op given (other.regs a) w) (is.regs b)) is))
    (λ to op given a. leaf _ _ (λ seen. inst_step seen (i.Un to op given a)) (fold-Un reads_step to op given a) (λ seen now. does-Un seen to op given a now)
    (λ test shapes state at there one other is. reg_alike to _ _ one other (ap (λ (w : ℕ). applied_un op w) (is.regs a)) is))
    (λ to a b s. leaf _ _ (λ seen. inst_step seen (i.Mulq to a b s)) (fold-Mulq reads_step to a b s) (λ seen now. does-Mulq seen to a b s now)
    (λ test shapes state at there one other is. reg_alike to _ _ one other
    (ap (λ (w : ℕ). mulq_of w (one.regs b) (one.regs s)) (is.regs a) ∙ ap (λ (w : ℕ). mulq_of (other.regs a) w (one.regs s)) (is.regs b) ∙ ap (λ (w : ℕ). mulq_of (other.regs a) (other.regs b) w) (is.regs s)) is))
    (λ to layout. leaf _ _ (λ seen. inst_step seen (i.Root to layout)) (fold-Root reads_step to layout) (λ seen now. does-Root seen to layout now)
    (λ test shapes state at there one other is. place_alike to _ _ _ _ one other refl is))
    (λ to place axis extent index. leaf _ _ (λ seen. inst_step seen (i.Check to place axis extent index)) (fold-Check reads_step to place axis extent index) (λ seen now. does-Check seen to place axis extent index now)
    (λ test shapes state at there one other is. place_alike to _ _ _ _ one other
    (ap (λ (w : ℕ). check extent w (one.places place)) (is.regs index) ∙ ap (λ (p : Option Place). check extent (other.regs index) p) (is.places place)) is))
    (λ to div size from. leaf _ _ (λ seen. inst_step seen (i.Extract to div size from)) (fold-Extract reads_step to div size from) (λ seen now. does-Extract seen to div size from now)
    (λ test shapes state at there one other is. reg_alike to _ _ one other (ap (λ (w : ℕ). w / div % size) (is.regs from)) is))
    (λ to high size low. leaf _ _ (λ seen. inst_step seen (i.Offset to high size low)) (fold-Offset reads_step to high size low) (λ seen now. does-Offset seen to high size low now)
    (λ test shapes state at there one other is. reg_alike to _ _ one other
    (ap (λ (w : ℕ). (w * size + one.regs low) % 2 ^ 32) (is.regs high) ∙ ap (λ (w : ℕ). (other.regs high * size + w) % 2 ^ 32) (is.regs low)) is))
    (λ to place node offset. leaf _ _ (λ seen. inst_step seen (i.Child to place node offset)) (fold-Child reads_step to place node offset) (λ seen now. does-Child seen to place node offset now)
    (λ test shapes state at there one other is. goes_down to place node offset shapes one other is))
    (λ to place node offset. leaf _ _ (λ seen. inst_step seen (i.HashChild to place node offset)) (fold-HashChild reads_step to place node offset) (λ seen now. does-HashChild seen to place node offset now)
    (λ test shapes state at there one other is. goes_down to place node offset shapes one other is))
    (λ to place node offset. leaf _ _ (λ seen. inst_step seen (i.MaskBit to place node offset)) (fold-MaskBit reads_step to place node offset) (λ seen now. does-MaskBit seen to place node offset now)
    (λ test shapes state at there one other is. goes_down to place node offset shapes one other is))
    (λ to place node offset. leaf _ _ (λ seen. inst_step seen (i.DynCell to place node offset)) (fold-DynCell reads_step to place node offset) (λ seen now. does-DynCell seen to place node offset now)
    (λ test shapes state at there one other is. goes_down to place node offset shapes one other is))
    (λ to place layout field index. leaf _ _ (λ seen. inst_step seen (i.ReadCell to place layout field index)) (fold-ReadCell reads_step to place layout field index) (λ seen now. does-ReadCell seen to place layout field index now)
    (λ test shapes state at there one other is. record {
      regs = λ k. put_alike to _ _ one.regs other.regs
          (same_value shapes state at there layout field (at_of shapes (one.places place)) ∙ ap (λ (p : Option Place). cell_value (seen_at shapes state there) layout field (at_of shapes p)) (is.places place)) k (is.regs k);
      vars = is.vars;
      places = is.places;
      wants = is.wants;
    }))
    (λ to place index. leaf _ _ (λ seen. inst_step seen (i.IsActive to place index)) (fold-IsActive reads_step to place index) (λ seen now. does-IsActive seen to place index now)
    (λ test shapes state at there one other is. record {
      regs = λ k. put_alike to _ _ one.regs other.regs
          (same_activity shapes state at there (at_of shapes (one.places place)) (one.places place)
          ∙ ap (λ (p : Option Place). flag (is_active_place (seen_at shapes state there) (at_of shapes p) p)) (is.places place)) k (is.regs k);
      vars = is.vars;
      places = is.places;
      wants = is.wants;
    }))
    (λ to layout field none. absurd (cc (fold-OwnRead reads_step to layout field, none)))
    (λ layout field from stmt. leaf _ _ (λ seen. inst_step seen (i.OwnWrite layout field from stmt)) (fold-OwnWrite reads_step layout field from stmt) (λ seen now. does-OwnWrite seen layout field from stmt now)
    (λ test shapes state at there one other is. record { regs = is.regs; vars = is.vars; places = is.places; wants = is.wants }))
    (λ op layout field place from index stmt. leaf _ _ (λ seen. inst_step seen (i.Acc op layout field place from index stmt)) (fold-Acc reads_step op layout field place from index stmt) (λ seen now. does-Acc seen op layout field place from index stmt now)
    (λ test shapes state at there one other is. record { regs = is.regs; vars = is.vars; places = is.places; wants = is.wants }))
    (λ layout index stmt. leaf _ _ (λ seen. inst_step seen (i.Want layout index stmt)) (fold-Want reads_step layout index stmt) (λ seen now. does-Want seen layout index stmt now)
    (λ test shapes state at there one other is. record {
      regs = is.regs;
      vars = is.vars;
      places = is.places;
      wants = ap (λ (ws : List CodeWant). ws ++ (record { layout = layout; stmt = stmt; at = coord_of (map one.regs index) }) ∷ []) is.wants
          ∙ ap (λ (ws : List ℕ). other.wants ++ (record { layout = layout; stmt = stmt; at = coord_of ws }) ∷ []) (same_map one.regs other.regs index is.regs);
    }))
    (λ cond block otherwise none. absurd (cc (fold-If reads_step cond block otherwise, none)))
    (λ var lo hi body none. absurd (cc (fold-For reads_step var lo hi body, none)))

-- ---- blocks

branch : (s t : Bool) (first second first' second' : List InstAction) (one other : Moved) → s ≡ t → AreAlike (actions_in_turn first one) (actions_in_turn first' other) → AreAlike (actions_in_turn second one) (actions_in_turn second' other)
    → AreAlike (actions_in_turn (if s then second else first) one) (actions_in_turn (if t then second' else first') other)
branch true true first second first' second' one other same p q = q
branch false false first second first' second' one other same p q = p
branch true false first second first' second' one other same p q = absurd (cc (same))
branch false true first second first' second' one other same p q = absurd (cc (same))

pub if_alike : (inst : Inst) (cond : ℕ) (block otherwise : List Inst) → inst ≡ v.If cond block otherwise → BlockIsAlike block → BlockIsAlike otherwise → InstIsAlike inst
if_alike inst cond block otherwise is first second shapes state at there one other alike =
    moved_alike _ _ _ _ (ap (λ (it : Inst). does (seen_at shapes state at) it one) is ∙ does-If (seen_at shapes state at) cond block otherwise one)
    (ap (λ (it : Inst). does (seen_at shapes state there) it other) is ∙ does-If (seen_at shapes state there) cond block otherwise other)
    (branch (one.regs cond == 0) (other.regs cond == 0) (map (does (seen_at shapes state at)) block) (map (does (seen_at shapes state at)) otherwise)
    (map (does (seen_at shapes state there)) block) (map (does (seen_at shapes state there)) otherwise) one other (ap (λ (w : ℕ). w == 0) (alike.regs cond))
    (first shapes state at there one other alike) (second shapes state at there one other alike))

turns_alike : (shapes : List Shape) (state : FlatState) (at there : Coord) (var : ℕ) (body : List Inst) (turns : List ℤ) (one other : Moved) → BlockIsAlike body → AreAlike one other
    → AreAlike (fold (λ (reached : Moved) (turn : ℤ). actions_in_turn (map (does (seen_at shapes state at)) body) (set_var_word var (word_of turn) reached)) one turns)
    (fold (λ (reached : Moved) (turn : ℤ). actions_in_turn (map (does (seen_at shapes state there)) body) (set_var_word var (word_of turn) reached)) other turns)
turns_alike shapes state at there var body [] one other each alike = alike
turns_alike shapes state at there var body (turn ∷ turns) one other each alike =
    turns_alike shapes state at there var body turns (actions_in_turn (map (does (seen_at shapes state at)) body) (set_var_word var (word_of turn) one))
    (actions_in_turn (map (does (seen_at shapes state there)) body) (set_var_word var (word_of turn) other)) each
    (each shapes state at there (set_var_word var (word_of turn) one) (set_var_word var (word_of turn) other) (var_alike var (word_of turn) (word_of turn) one other refl alike))

pub for_alike : (inst : Inst) (var : ℕ) (lo hi : ℤ) (body : List Inst) → inst ≡ v.For var lo hi body → BlockIsAlike body → InstIsAlike inst
for_alike inst var lo hi body is each shapes state at there one other alike =
    moved_alike _ _ _ _ (ap (λ (it : Inst). does (seen_at shapes state at) it one) is ∙ does-For (seen_at shapes state at) var lo hi body one)
    (ap (λ (it : Inst). does (seen_at shapes state there) it other) is ∙ does-For (seen_at shapes state there) var lo hi body other)
    (turns_alike shapes state at there var body (numbers lo hi) one other each alike)

-- one instruction more, from the end
pub block_next : (block : List Inst) (k : ℕ) (inst : Inst) → k < length block → inst ≡ get_or block k inst → InstIsAlike inst → BlockIsAlike (drop (k + 1) block) → BlockIsAlike (drop k block)
block_next block k inst below is one later = subst (λ (insts : List Inst). BlockIsAlike insts) (sym split)
    (λ shapes state at there a b alike. later shapes state at there (does (seen_at shapes state at) inst a) (does (seen_at shapes state there) inst b) (one shapes state at there a b alike))
  where
    split : drop k block ≡ inst ∷ drop (k + 1) block
    split = rw add-one (drop-cons block k inst below ∙ ap (λ (x : Inst). x ∷ drop (suc k) block) (sym is))

pub block_end : (block : List Inst) (k : ℕ) → length block ≤ k → BlockIsAlike (drop k block)
block_end block k past = subst (λ (insts : List Inst). BlockIsAlike insts) (sym (drop_all k block past)) (λ shapes state at there a b alike. alike)
