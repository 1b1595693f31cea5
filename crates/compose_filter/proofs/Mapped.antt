-- Lists that are kept in part, and then mapped.
use Rattle.std.specs.Prelude.{◌≡◌, Bool, true, false, cond, List, [], ◌∷◌, ◌++◌, Option, Some, None, map, option_map}
use Rattle.std.specs.List.{filter_map, flat_map, cons_option}
use Rattle.std.proofs.Common.{refl, ◌∙◌, ap}
use Rattle.std.proofs.lemmas.List.{map-append}

pub map_cond : {X Y : Type 0} (k : X → Y) (b : Bool) (x : X) → option_map k (cond b (Some x) None) ≡ cond b (Some (k x)) None
map_cond k true x = refl
map_cond k false x = refl

map_cons_option : {X Y : Type 0} (k : X → Y) (o : Option X) (xs : List X) → map k (cons_option o xs) ≡ cons_option (option_map k o) (map k xs)
map_cons_option k None xs = refl
map_cons_option k (Some x) xs = refl

-- what is kept of a list, and what is kept of the same one mapped
pub mapped_kept : {W V X Y : Type 0} (g : W → V) (k : X → Y) (h : W → Option X) (j : V → Option Y) → ((w : W) → option_map k (h w) ≡ j (g w)) → (ws : List W) → map k (filter_map h ws) ≡ filter_map j (map g ws)
mapped_kept g k h j e [] = refl
mapped_kept g k h j e (w ∷ ws) = map_cons_option k (h w) (filter_map h ws) ∙ (ap (λ o. cons_option o (map k (filter_map h ws))) (e w) ∙ ap (cons_option (j (g w))) (mapped_kept g k h j e ws))

pub map_filter_map : {W X Y : Type 0} (k : X → Y) (h : W → Option X) (g : W → Option Y) → ((w : W) → option_map k (h w) ≡ g w) → (ws : List W) → map k (filter_map h ws) ≡ filter_map g ws
map_filter_map k h g e [] = refl
map_filter_map k h g e (w ∷ ws) = map_cons_option k (h w) (filter_map h ws) ∙ (ap (λ o. cons_option o (map k (filter_map h ws))) (e w) ∙ ap (cons_option (g w)) (map_filter_map k h g e ws))

-- what is kept of the pairs of two lists
pub mapped_pairs : {W V U X Y : Type 0} (g : W → V) (k : X → Y) (h : W → U → Option X) (j : V → U → Option Y) → ((w : W) (u : U) → option_map k (h w u) ≡ j (g w) u) → (ws : List W) (us : List U) → map k (flat_map (λ w. filter_map (h w) us) ws) ≡ flat_map (λ v. filter_map (j v) us) (map g ws)
mapped_pairs g k h j e [] us = refl
mapped_pairs g k h j e (w ∷ ws) us =
    let rest = flat_map (λ v. filter_map (h v) us) ws in
    map-append k (filter_map (h w) us) rest ∙ (ap (λ t. t ++ map k rest) (map_filter_map k (h w) (j (g w)) (e w) us) ∙ ap (λ t. filter_map (j (g w)) us ++ t) (mapped_pairs g k h j e ws us))
