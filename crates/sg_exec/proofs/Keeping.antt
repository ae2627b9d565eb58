-- The writes that workers keep, as one list.
use Rattle.std.proofs.Common.{◌≡◌, List, [], ◌∷◌, ◌++◌, Vec, refl, sym, ap, ◌∙◌, append_assoc}
use Rattle.std.specs.declared.alloc.Global.{Global}
use Rattle.sg_exec.specs.declared.lanes.cell_write.CellWrite.{CellWrite}
use Rattle.sg_exec.specs.steps.Puts.{in_lists}

-- lists one after the other
pub lists_append : (xs ys : List (Vec CellWrite Global)) → in_lists (xs ++ ys) ≡ in_lists xs ++ in_lists ys
lists_append [] ys = refl
lists_append (x ∷ xs) ys = ap (λ (ws : List CellWrite). x.items ++ ws) (lists_append xs ys) ∙ sym (append_assoc x.items (in_lists xs) (in_lists ys))

-- a list and others after lists, and a last one
pub kept_with : (before others : List (Vec CellWrite Global)) (last : Vec CellWrite Global) (end : List CellWrite)
    → in_lists ((before ++ last ∷ []) ++ others) ++ end ≡ (in_lists before ++ last.items) ++ (in_lists others ++ end)
kept_with before others last end =
    ap (λ (ws : List CellWrite). ws ++ end) (lists_append (before ++ last ∷ []) others
    ∙ ap (λ (ws : List CellWrite). ws ++ in_lists others) (lists_append before (last ∷ []) ∙ ap (λ (ws : List CellWrite). in_lists before ++ ws) (one last.items)))
    ∙ append_assoc (in_lists before ++ last.items) (in_lists others) end
  where
    one : (ws : List CellWrite) → ws ++ [] ≡ ws
    one [] = refl
    one (w ∷ ws) = ap (λ (l : List CellWrite). w ∷ l) (one ws)
