use Rattle.csv_rows.proofs.Imports.{Bool, List, [], ap, ap₂, arith, bit_or, cond, map, refl, ℕ, ◌%◌, ◌==◌, ◌^◌, ◌||◌, ◌∙◌, ◌∷◌, ◌≡◌, is_mark, length-map, mask_l, mask_l-mod, top, zip2_of_maps, zip2_splat}
use Rattle.csv_rows.proofs.field_ends.marks.Goals as goal

abbrev hit : ℕ → ℕ → ℕ
hit a b = cond (a == b) 255 0

top_or : (a b d : Bool)
    → top 7 (bit_or (bit_or (cond a 255 0) (cond b 255 0)) (cond d 255 0)) ≡ (a || (b || d))
top_or a b d = grind arith

tops : (v : List ℕ) → map (top 7) (map (λ x. bit_or (bit_or (hit x 44) (hit x 10)) (hit x 13)) v)
    ≡ map is_mark v
tops [] = refl
tops (x ∷ v) = ap₂ ◌∷◌ (top_or (x == 44) (x == 10) (x == 13)) (tops v)

pub returns : goal.returns
returns c =
    let v = c.args.v in
    let long = c.fits-v.0 in
    ap (λ z. mask_l (map (top 7) z) % 2 ^ 64) (zip2_of_maps bit_or _ _ v
    (zip2_of_maps bit_or _ _ v (zip2_splat hit v 16 44 long) (zip2_splat hit v 16 10 long))
    (zip2_splat hit v 16 13 long))
    ∙ ap (λ l. mask_l l % 2 ^ 64) (tops v)
    ∙ mask_l-mod (map is_mark v) 64 (omega (arith, length-map v is_mark))
