mod Row
