use Rattle.std.proofs.Common.{◌≡◌, ◌∙◌, ap, refl, List, ◌∷◌, ℕ}
use Rattle.norm_base.specs.Files.{Files, files_of}
use Rattle.sample_lines.specs.Toy.{toy_files}
use Rattle.sample_lines.proofs.toy.toy_shelf.Goals as goal

one_more : (name text name2 text2 : List ℕ) (files files2 : Files) → name ≡ name2 → text ≡ text2 → files ≡ files2
    → (name, text) ∷ files ≡ (name2, text2) ∷ files2
one_more name text name2 text2 files files2 names texts rest = rw (names, texts, rest) refl

pub returns : goal.returns
unfolding toy_files
returns c =
    c.new.ensures
    ∙ ap files_of c.in_ok-vec.ensures.items
    ∙ one_more _ _ _ _ _ _ c.in_ok-setup.ensures.name c.in_ok-setup.ensures.text
    (one_more _ _ _ _ _ _ c.in_ok-classify.ensures.name c.in_ok-classify.ensures.text
    (one_more _ _ _ _ _ _ c.in_ok-verbalize.ensures.name c.in_ok-verbalize.ensures.text refl))
