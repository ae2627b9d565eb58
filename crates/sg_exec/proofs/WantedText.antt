-- Which layouts stand in wants in the text of a block.
use Rattle.std.proofs.Common.{◌≡◌, ℕ, ◌<◌, ℤ, List, [], ◌++◌, map, length, get_or, sym, ap, ◌∙◌, subst}
use Rattle.std.specs.Prelude.{Contains}
use Rattle.std.specs.List.{flat_map}
use Rattle.std.proofs.lemmas.List.Elements.{Contains-append_left, Contains-append_right, Contains-get_or}
use Rattle.sg_words.proofs.Uses.{contains_head}
use Rattle.sg_ir.specs.declared.code.Inst.{Inst}
use Rattle.sg_ir.specs.declared.code.Inst.TheVariants as v
use Rattle.sg_ir.specs.Touches.{layouts_wanted, wanted_by, wanted_step}
use Rattle.sg_ir.proofs.Uses.{fold-Want, fold-If, fold-For}
use Rattle.sg_exec.proofs.UsedWrites.{flat_of_map}
use Rattle.sg_exec.proofs.PassesLanded.{into_flat}

pub want_text : (layout wanted : ℕ) (inst : Inst) (index : List ℕ) (stmt : ℕ) → inst ≡ v.Want wanted index stmt → wanted ≡ layout → Contains (wanted_by inst) layout
want_text layout wanted inst index stmt is same =
    subst (λ (list : List ℕ). Contains list layout) (sym (ap wanted_by is ∙ fold-Want wanted_step wanted index stmt)) (contains_head layout wanted [] same)

if_is : (inst : Inst) (cond : ℕ) (block otherwise : List Inst) → inst ≡ v.If cond block otherwise → wanted_by inst ≡ layouts_wanted block ++ layouts_wanted otherwise
if_is inst cond block otherwise is =
    ap wanted_by is ∙ fold-If wanted_step cond block otherwise
    ∙ ap (λ (list : List ℕ). list ++ flat_map (λ (layouts : List ℕ). layouts) (map wanted_by otherwise)) (flat_of_map wanted_by block)
    ∙ ap (λ (list : List ℕ). layouts_wanted block ++ list) (flat_of_map wanted_by otherwise)

pub if_first : (layout : ℕ) (inst : Inst) (cond : ℕ) (block otherwise : List Inst) → inst ≡ v.If cond block otherwise → Contains (layouts_wanted block) layout → Contains (wanted_by inst) layout
if_first layout inst cond block otherwise is has =
    subst (λ (list : List ℕ). Contains list layout) (sym (if_is inst cond block otherwise is)) (Contains-append_left (layouts_wanted block) (layouts_wanted otherwise) layout has)

pub if_second : (layout : ℕ) (inst : Inst) (cond : ℕ) (block otherwise : List Inst) → inst ≡ v.If cond block otherwise → Contains (layouts_wanted otherwise) layout → Contains (wanted_by inst) layout
if_second layout inst cond block otherwise is has =
    subst (λ (list : List ℕ). Contains list layout) (sym (if_is inst cond block otherwise is)) (Contains-append_right (layouts_wanted block) (layouts_wanted otherwise) layout has)

pub for_text : (layout : ℕ) (inst : Inst) (var : ℕ) (lo hi : ℤ) (body : List Inst) → inst ≡ v.For var lo hi body → Contains (layouts_wanted body) layout → Contains (wanted_by inst) layout
for_text layout inst var lo hi body is has =
    subst (λ (list : List ℕ). Contains list layout) (sym (ap wanted_by is ∙ fold-For wanted_step var lo hi body ∙ flat_of_map wanted_by body)) has

-- an instruction of a block
pub item_text : (layout : ℕ) (block : List Inst) (k : ℕ) (inst : Inst) → k < length block → inst ≡ get_or block k inst → Contains (wanted_by inst) layout → Contains (layouts_wanted block) layout
item_text layout block k inst below is has = into_flat wanted_by block inst layout (subst (λ (it : Inst). Contains block it) (sym is) (Contains-get_or block k inst below)) has
