-- What own writes and contributions leave in a cell.
use Rattle.std.proofs.Common.{◌≡◌, ℕ, List, [], ◌∷◌, refl, ap, ◌∙◌}
use Rattle.std.proofs.lemmas.List.Elements.{All-head, All-tail}
use Rattle.sg_words.specs.declared.operators.Ty.{Ty}
use Rattle.sg_words.specs.declared.operators.AccOp.{AccOp}
use Rattle.sg_flat.specs.declared.effects.Way.{Way}
use Rattle.sg_flat.specs.declared.effects.Way.TheVariants.{Own, Acc}
use Rattle.sg_flat.specs.declared.effects.Write.{Write}
use Rattle.sg_flat.specs.Effects.{land, landed}
use Rattle.sg_flat.specs.Laws.{LastValueStays, ContributionsFold}

pub last_value_stays : (ty : Ty) (old : ℕ) (writes : List Write) → LastValueStays ty old writes
last_value_stays ty old [] own = refl
last_value_stays ty old (write ∷ writes) own =
    ap (λ (way : Way). landed ty (land ty old way write.value) writes) (All-head (λ (w : Write). w.way ≡ Own) write writes own)
    ∙ last_value_stays ty write.value writes (All-tail (λ (w : Write). w.way ≡ Own) write writes own)

pub contributions_fold : (op : AccOp) (ty : Ty) (old : ℕ) (writes : List Write) → ContributionsFold op ty old writes
contributions_fold op ty old [] all = refl
contributions_fold op ty old (write ∷ writes) all =
    ap (λ (way : Way). landed ty (land ty old way write.value) writes) (All-head (λ (w : Write). w.way ≡ Acc op) write writes all)
    ∙ contributions_fold op ty (land ty old (Acc op) write.value) writes (All-tail (λ (w : Write). w.way ≡ Acc op) write writes all)
