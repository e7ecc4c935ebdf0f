-- The description that two generators and their tuple stand for.
-- Assumes nothing.
use Rattle.code.specs.declared.description.Description.{Description}
use Rattle.code.specs.Catalogue.{described}
use Rattle.weighted.specs.declared.weighted.Weighted.{Weighted}

abbrev pub description_of : Weighted → Description
description_of w = described 3 w.first.degree w.first.low w.second.degree w.second.low w.tuple
