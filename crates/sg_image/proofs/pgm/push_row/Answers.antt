use Rattle.std.proofs.Common.{ℕ, ◌++◌, ◌∷◌, [], decimal, Bool, cond, ap, ◌∙◌, append_assoc}
use Rattle.std.specs.Prelude.{string_bytes}
use Rattle.sg_coord.specs.declared.coord.Coord.{Coord}
use Rattle.sg_words.specs.Words.{number}
use Rattle.sg_image.specs.Grey.{grey_of}
use Rattle.sg_image.specs.Pgm.{behind}
use Rattle.sg_image.specs.steps.Keeping.{kept_word, kept_grey}
use Rattle.sg_image.proofs.Images.{texts_more}
use Rattle.sg_image.proofs.pgm.push_row.Goals as goal

pub loop-column-preserved : goal.loop-column-preserved
loop-column-preserved c =
    let lo = c.args.shades.now.lo in
    let hi = c.args.shades.now.hi in
    let grey = c.grey-value.ensures
    ∙ ap (λ (word : ℕ). grey_of lo hi (number c.args.shades.now.ty word)) (c.kept_word-word.ensures ∙ ap (λ (at : Coord). kept_word c.args.store.now c.args.place at) c.coord_of.ensures) in
    texts_more c.loop-column.column (λ column. decimal (kept_grey c.args.store.now c.args.place c.args.shades.now.ty lo hi c.args.row column) ++ behind c.args.width column ∷ [])
    _ _ _ c.loop-column.invariant
    (c.in_ok-push_value.ensures
    ∙ ap (λ (n : ℕ). string_bytes c.loop-column.text ++ decimal n ++ cond c.ends_line.result 10 32 ∷ []) grey
    ∙ ap (λ (b : Bool). string_bytes c.loop-column.text ++ decimal (kept_grey c.args.store.now c.args.place c.args.shades.now.ty lo hi c.args.row c.loop-column.column) ++ cond b 10 32 ∷ []) c.ends_line.ensures
    ∙ append_assoc (string_bytes c.loop-column.text) (decimal (kept_grey c.args.store.now c.args.place c.args.shades.now.ty lo hi c.args.row c.loop-column.column)) (behind c.args.width c.loop-column.column ∷ []))
