-- Lemmas on bytes that are written piece by piece.
use Rattle.std.proofs.Common.{ℕ, List, [], ◌++◌, take, drop, refl, sym, ap, ◌∙◌, append-nil, append_assoc, take-append-drop}
use Rattle.std.proofs.KnownBytes.{Appends-nil, Appends-trans}
use Rattle.std.specs.Io.KnownBytes.{Appends}
use Rattle.std.specs.declared.option.Option.{Option}
use Rattle.norm_base.specs.Bytes.{AppendsFront, AppendsPrefix}

-- nothing was written yet
pub front_none : (old : Option (List ℕ)) (all : List ℕ) → AppendsFront old old all all
front_none old all = record { front = []; parts = refl; grown = Appends-nil old }

-- n bytes more were written
pub front_more : (old mid new : Option (List ℕ)) (all rest : List ℕ) (n : ℕ)
    → AppendsFront old mid all rest → Appends mid new (take n rest) → AppendsFront old new all (drop n rest)
front_more old mid new all rest n sofar step = record {
  front = sofar.front ++ take n rest;
  parts = sofar.parts ∙ ap (λ l. sofar.front ++ l) (sym (take-append-drop n rest)) ∙ sym (append_assoc sofar.front (take n rest) (drop n rest));
  grown = Appends-trans old mid new sofar.front (take n rest) sofar.grown step;
}

-- nothing is a prefix
pub prefix_none : (old : Option (List ℕ)) (all : List ℕ) → AppendsPrefix old old all
prefix_none old all = record { rest = all; front = front_none old all }

-- all is a prefix
pub prefix_all : (old new : Option (List ℕ)) (all : List ℕ)
    → Appends old new all → AppendsPrefix old new all
prefix_all old new all grown = record { rest = []; front = record { front = all; parts = sym (append-nil all); grown = grown } }

-- a prefix of the first part is one of the whole
pub prefix_first : (old new : Option (List ℕ)) (first more : List ℕ)
    → AppendsPrefix old new first → AppendsPrefix old new (first ++ more)
prefix_first old new first more part = record {
  rest = part.rest ++ more;
  front = record {
    front = part.front.front;
    parts = ap (λ l. l ++ more) part.front.parts ∙ append_assoc part.front.front part.rest more;
    grown = part.front.grown;
  };
}

-- all of the first part, and then a prefix of the rest
pub prefix_then : (old mid new : Option (List ℕ)) (first more : List ℕ)
    → Appends old mid first → AppendsPrefix mid new more → AppendsPrefix old new (first ++ more)
prefix_then old mid new first more grown part = record {
  rest = part.rest;
  front = record {
    front = first ++ part.front.front;
    parts = ap (λ l. first ++ l) part.front.parts ∙ sym (append_assoc first part.front.front part.rest);
    grown = Appends-trans old mid new first part.front.front grown part.front.grown;
  };
}
