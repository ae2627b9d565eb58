-- Own writes that are kept.
use Rattle.std.proofs.Common.{◌≡◌, ℕ, ◌+◌, ◌<◌, Bool, true, false, cond, List, [], ◌∷◌, ◌++◌, length, take, get_or, find, reverse, Option, Some, sym, ap, ◌∙◌, subst, append_assoc}
use Rattle.std.specs.Prelude.{All, IfSome}
use Rattle.std.specs.List.{flat_map}
use Rattle.std.proofs.lemmas.List.{append-nil, take_more, reverse-append}
use Rattle.std.proofs.lemmas.List.Elements.{All-append, All-cons, All-nil, All-head, All-tail}
use Rattle.std.proofs.lemmas.Option.{same_Some}
use Rattle.sg_store.specs.StoreWords.{StoreWords}
use Rattle.sg_exec.specs.declared.lanes.cell_write.CellWrite.{CellWrite}
use Rattle.sg_exec.specs.declared.results.shared.Owned.{Owned}
use Rattle.sg_exec.specs.steps.Machines.{AreCells, IsCellOf}
use Rattle.sg_exec.specs.steps.Written.{is_own_to, own_write}
use Rattle.sg_exec.specs.steps.Racing.{listed, last_own}
use Rattle.sg_exec.proofs.Halves.{flat-append}

pub find_all : {X : Type 0} (P : X → Type 0) (t : X → Bool) (xs : List X) (x : X) → All P xs → find t xs ≡ Some x → P x
find_all P t [] x all found = absurd (cc)
find_all {X} P t (y ∷ ys) x all found = by_test (t y) (λ is. find_all P t ys x (All-tail P y ys all) is) found
  where
    by_test : (b : Bool) → (find t ys ≡ Some x → P x) → cond b (Some y) (find t ys) ≡ Some x → P x
    by_test true later is = subst P (same_Some _ _ is) (All-head P y ys all)
    by_test false later is = later is

all_reverse : {X : Type 0} (P : X → Type 0) (xs : List X) → All P xs → All P (reverse xs)
all_reverse P [] all = all
all_reverse {X} P (x ∷ xs) all =
    subst (λ (ys : List X). All P ys) (sym (reverse-append (x ∷ []) xs))
    (All-append P (reverse xs) (x ∷ []) (all_reverse P xs (All-tail P x xs all)) (All-cons P x [] (All-head P x xs all) (All-nil P)))

pub cells_push : (stores : List StoreWords) (list olds nows : List CellWrite) (layout place : ℕ) (write : CellWrite) {slice : List CellWrite} {found : Option CellWrite} → slice ≡ list → AreCells stores slice
    → found ≡ own_write layout place list → found ≡ Some write → nows ≡ olds ++ write ∷ [] → AreCells stores olds → AreCells stores nows
cells_push stores list olds nows layout place write same cells is some more all =
    let P : CellWrite → Type 0 = λ (w : CellWrite). IfSome w.cell (IsCellOf stores w.layout) in
    let one : P write = find_all P (is_own_to layout place) (reverse list) write (all_reverse P list (subst (λ (ws : List CellWrite). AreCells stores ws) same cells)) (sym is ∙ some) in
    subst (λ (ws : List CellWrite). AreCells stores ws) (sym more) (All-append P olds (write ∷ []) all (All-cons P write [] one (All-nil P)))

pub puts_next : (owned : List Owned) (list : List CellWrite) (k : ℕ) (d : Owned) (olds mids nows : List CellWrite) → k < length owned → mids ≡ olds ++ last_own (take k owned) list
    → nows ≡ mids ++ listed (own_write (get_or owned k d).layout (get_or owned k d).field list) → nows ≡ olds ++ last_own (take (k + 1) owned) list
puts_next owned list k d olds mids nows below first second =
    let keep : Owned → List CellWrite = λ (own : Owned). listed (own_write own.layout own.field list) in
    second ∙ ap (λ (ws : List CellWrite). ws ++ keep (get_or owned k d)) first
    ∙ append_assoc olds (flat_map keep (take k owned)) (keep (get_or owned k d))
    ∙ ap (λ (ws : List CellWrite). olds ++ ws)
    (ap (λ (ws : List CellWrite). flat_map keep (take k owned) ++ ws) (sym (append-nil (keep (get_or owned k d))))
    ∙ sym (flat-append keep (take k owned) (get_or owned k d ∷ []))
    ∙ ap (flat_map keep) (sym (take_more owned k d below)))
