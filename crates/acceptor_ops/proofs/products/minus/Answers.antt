use Rattle.acceptor_ops.proofs.products.minus.Goals as goal

pub returns-clause-readings : goal.returns-clause-readings
returns-clause-readings c x y w =
    let p = c.in_ok-m.ensures.readings x y w in
    let q = c.in_ok-all.ensures.readings x y w in
    (λ h. q.0 (p.0 h), λ h. p.1 (q.1 h))
