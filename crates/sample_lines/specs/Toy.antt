-- The files that the sample is spoken by.
use Rattle.std.specs.Prelude.{[], ◌∷◌, codes}
use Rattle.norm_base.specs.Files.{Files}
use Rattle.sample_lines.specs.declared.toy.TheConstants.{TOY_SETUP, TOY_CLASSIFY, TOY_VERBALIZE}

-- names and contents
unfoldable pub toy_files : Files
toy_files =
    (codes "toy.setup", TOY_SETUP.now)
    ∷ (codes "toy_classify.grm", TOY_CLASSIFY.now)
    ∷ (codes "toy_verbalize.grm", TOY_VERBALIZE.now)
    ∷ []
