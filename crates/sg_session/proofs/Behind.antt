-- One more answer after those that are there.
use Rattle.std.proofs.Common.{◌≡◌, ℕ, suc, ◌+◌, ◌-◌, ◌<◌, List, [], ◌∷◌, ◌++◌, length, length-append, Result, Ok, Err, refl, sym, ap, ◌∙◌, add-one, append_assoc, arith}
use Rattle.std.specs.List.{repeat}
use Rattle.sg_words.specs.Results.{◌>>=◌, fault_as}
use Rattle.sg_layout.specs.declared.shape.Shape.{Shape}
use Rattle.sg_layout.specs.Rules.{checked_shape}
use Rattle.sg_types.specs.declared.typed.TypedKernel.{TypedKernel}
use Rattle.sg_admit.specs.declared.admitted.Admitted.{Admitted}
use Rattle.sg_admit.specs.declared.admitted.AdmitFault.{AdmitFault}
use Rattle.sg_admit.specs.Admission.{admission}
use Rattle.sg_session.specs.declared.refusal.Refusal.{Refusal}
use Rattle.sg_session.specs.declared.refusal.Refusal.TheVariants as refusal
use Rattle.sg_session.specs.Compiling.{checked_layouts, admitted_kernels}
use Rattle.sg_session.specs.steps.Following.{behind_front}

behind_next : {A E : Type 0} (front : List A) (x : A) (r : Result (List A) E) → behind_front front (r >>= (λ xs. Ok (x ∷ xs))) ≡ behind_front (front ++ x ∷ []) r
behind_next front x (Ok xs) = ap Ok (sym (append_assoc front (x ∷ []) xs))
behind_next front x (Err fault) = refl

pub layouts_next : (front : List Shape) (n : ℕ) (shape layout : Shape) (shapes : List Shape) → fault_as (refusal.Layout n) (checked_shape shape) ≡ Ok layout
    → behind_front front (checked_layouts n (shape ∷ shapes)) ≡ behind_front (front ++ layout ∷ []) (checked_layouts (n + 1) shapes)
layouts_next front n shape layout shapes e =
    rw add-one (ap (λ (r : Result Shape Refusal). behind_front front (r >>= (λ layout. checked_layouts (suc n) shapes >>= (λ layouts. Ok (layout ∷ layouts))))) e
    ∙ behind_next front layout (checked_layouts (suc n) shapes))

pub layouts_refused : (front : List Shape) (n : ℕ) (shape : Shape) (shapes : List Shape) (refused : Refusal) → fault_as (refusal.Layout n) (checked_shape shape) ≡ Err refused
    → behind_front front (checked_layouts n (shape ∷ shapes)) ≡ Err refused
layouts_refused front n shape shapes refused e =
    ap (λ (r : Result Shape Refusal). behind_front front (r >>= (λ layout. checked_layouts (suc n) shapes >>= (λ layouts. Ok (layout ∷ layouts))))) e

pub admitted_next : (front : List Admitted) (n : ℕ) (kernel : TypedKernel) (admitted : Admitted) (kernels : List TypedKernel) → admission kernel ≡ Ok admitted
    → behind_front front (admitted_kernels n (kernel ∷ kernels)) ≡ behind_front (front ++ admitted ∷ []) (admitted_kernels (n + 1) kernels)
admitted_next front n kernel admitted kernels e =
    rw add-one (ap (λ (r : Result Admitted AdmitFault). behind_front front (fault_as (refusal.Admit n) r >>= (λ one. admitted_kernels (suc n) kernels >>= (λ more. Ok (one ∷ more))))) e
    ∙ behind_next front admitted (admitted_kernels (suc n) kernels))

pub admitted_refused : (front : List Admitted) (n : ℕ) (kernel : TypedKernel) (kernels : List TypedKernel) (fault : AdmitFault) → admission kernel ≡ Err fault
    → behind_front front (admitted_kernels n (kernel ∷ kernels)) ≡ Err (refusal.Admit n fault)
admitted_refused front n kernel kernels fault e =
    ap (λ (r : Result Admitted AdmitFault). behind_front front (fault_as (refusal.Admit n) r >>= (λ one. admitted_kernels (suc n) kernels >>= (λ more. Ok (one ∷ more))))) e

-- so many turns of a list begin with one
pub repeat_next : {A : Type 0} (n k : ℕ) (xs : List A) → k < n → repeat (n - k) xs ≡ xs ++ repeat (n - (k + 1)) xs
repeat_next n k xs below = let more : n - k ≡ suc (n - (k + 1)) = omega arith in ap (λ (m : ℕ). repeat m xs) more

-- one more kernel is admitted
pub admitted_step : (front more : List Admitted) (n : ℕ) (kernels rest : List TypedKernel) (kernel : TypedKernel) (admitted : Admitted) (whole : Result (List Admitted) Refusal)
    → kernels ≡ kernel ∷ rest → admission kernel ≡ Ok admitted → more ≡ front ++ admitted ∷ [] → behind_front front (admitted_kernels n kernels) ≡ whole
    → behind_front more (admitted_kernels (n + 1) rest) ≡ whole
admitted_step front more n kernels rest kernel admitted whole split is pushed e =
    ap (λ (xs : List Admitted). behind_front xs (admitted_kernels (n + 1) rest)) pushed ∙ sym (admitted_next front n kernel admitted rest is)
    ∙ ap (λ (ks : List TypedKernel). behind_front front (admitted_kernels n ks)) (sym split) ∙ e

-- a layout is taken
pub layout_taken : (list more : List Shape) (shape layout : Shape) (shapes : List Shape) → fault_as (refusal.Layout (length list)) (checked_shape shape) ≡ Ok layout → more ≡ list ++ layout ∷ []
    → behind_front list (checked_layouts (length list) (shape ∷ shapes)) ≡ behind_front more (checked_layouts (length more) shapes)
layout_taken list more shape layout shapes e pushed =
    let many : length list + 1 ≡ length more = sym (ap length pushed ∙ length-append list (layout ∷ [])) in
    layouts_next list (length list) shape layout shapes e
    ∙ ap (λ (xs : List Shape). behind_front xs (checked_layouts (length list + 1) shapes)) (sym pushed)
    ∙ ap (λ (n : ℕ). behind_front more (checked_layouts n shapes)) many

-- one more turn is added
pub repeat_step : {A : Type 0} (n k : ℕ) (xs front more whole : List A) → k < n → more ≡ front ++ xs → front ++ repeat (n - k) xs ≡ whole → more ++ repeat (n - (k + 1)) xs ≡ whole
repeat_step n k xs front more whole below added e =
    ap (λ ys. ys ++ repeat (n - (k + 1)) xs) added ∙ append_assoc front xs (repeat (n - (k + 1)) xs)
    ∙ ap (λ ys. front ++ ys) (sym (repeat_next n k xs below)) ∙ e
