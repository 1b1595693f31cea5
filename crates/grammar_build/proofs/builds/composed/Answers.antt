use Rattle.grammar_build.proofs.builds.composed.Goals as goal

pub returns-clause-readings : goal.returns-clause-readings
returns-clause-readings c x y w = (
  λ h. (c.in_ok-all.ensures.readings x y w).0 ((c.in_ok-m.ensures.readings x y w).0 h),
  λ h. (c.in_ok-m.ensures.readings x y w).1 ((c.in_ok-all.ensures.readings x y w).1 h),
)
