use Rattle.poly1305.proofs.limbs.multiplied.Goals as goal

pub returns-clause-below : goal.returns-clause-below
returns-clause-below c j lt h r = c.carried.ensures.below j lt (c.products.ensures.below j lt h r)
