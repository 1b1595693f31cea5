-- The file of a name that is text, and of one that isn't.
use Rattle.std.proofs.Common.{◌≡◌, ◌∙◌, ap, subst, refl, ℕ, List, Vec, Global, true, false}
use Rattle.std.specs.Prelude.{IfOk, IfSome, Some, None, Result, Ok, Err}
use Rattle.std.specs.Str.{is_utf8}
use Rattle.std.specs.Option.{option_map}
use Rattle.std.specs.declared.option.Option.{Option}
use Rattle.norm_base.specs.Files.{Files, Fetches, file_of}
use Rattle.thrax_meaning.specs.Meaning.{named_file}

pub fetched : {E : Type 0} (known : Files) (files : Option Files) (name text : List ℕ) (r : Result (Option (Vec ℕ Global)) E) → files ≡ Some known → text ≡ name → is_utf8 name ≡ true
    → Fetches files text r → IfOk r (λ file. option_map (λ (b : Vec ℕ Global). b.items) file ≡ named_file known name)
fetched known files name text (Err e) told same utf8 h = tt
fetched known files name text (Ok file) told same utf8 h =
    let here : option_map (λ (b : Vec ℕ Global). b.items) file ≡ file_of known text = subst (λ o. IfSome o (λ k. option_map (λ (b : Vec ℕ Global). b.items) file ≡ file_of k text)) told h in
    here ∙ ap (file_of known) same ∙ rw utf8 refl

pub unnamed : (known : Files) (name : List ℕ) → is_utf8 name ≡ false → None ≡ named_file known name
unnamed known name h = rw h refl
